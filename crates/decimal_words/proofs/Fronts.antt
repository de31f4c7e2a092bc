-- What comes after a front of a text, as `strip_prefix` gives it.
use Rattle.std.proofs.Common.{◌≡◌, ℕ, List, Bool, true, false, Option, Some, None, Bor, sym, ap, refl, ◌∙◌, subst}
use Rattle.std.proofs.Common.{◌++◌, arith, nat_eq, length, drop, option_map, if◌then◌else◌}
use Rattle.std.specs.List.{starts_with}
use Rattle.std.specs.Option.{MatchOption}
use Rattle.std.specs.Str.{IsCharBoundary}
use Rattle.std.specs.Str.Pattern.{FindsTextPrefix, StripsPrefix}
use Rattle.std.proofs.lemmas.Slice.Eq.{starts_is}
use Rattle.std.proofs.lemmas.Bool.Decides.{Decides-eqb}
use Rattle.std.proofs.lemmas.Str.Pattern.{starts_text}
use Rattle.decimal_words.specs.Numbers.{text_after}

taken : {A : Type 0} (b : Bool) (x : A) → true ≡ b → Some x ≡ (if b then Some x else None)
taken true x e = refl
taken false x e = absurd (grind arith)

left : {A : Type 0} (b : Bool) (x : A) → false ≡ b → None ≡ (if b then Some x else None)
left true x e = absurd (grind arith)
left false x e = refl

pub strips : (front text : List ℕ) (r : Option (Bor (List ℕ))) →
    MatchOption r (FindsTextPrefix front text None) (λ x. StripsPrefix (FindsTextPrefix front) text x.now) →
    option_map (λ s. s.now) r ≡ text_after front text
strips front text None none = left _ _ (starts_text false front text none)
strips front text (Some x) found =
    let n_is : found.0 ≡ length front = found.1.0 in
    let starts : true ≡ starts_with nat_eq text front =
    starts_text true front text (found.0, found.1, subst (IsCharBoundary text) (sym n_is) found.1.2) in
    ap Some (found.2 ∙ ap (λ k. drop k text) n_is) ∙ taken _ (drop (length front) text) starts

kept : {A : Type 0} (b : Bool) (x y : A) → (if b then Some x else None) ≡ Some y → (b ≡ true) × (x ≡ y)
kept true x y e = (refl, grind arith)
kept false x y e = absurd (grind arith)

-- a text with something after a front is the front and that
pub begins : (front text rest : List ℕ) → text_after front text ≡ Some rest → text ≡ front ++ rest
begins front text rest e =
    let h = kept (starts_with nat_eq text front) (drop (length front) text) rest e in
    (starts_is Decides-eqb text front _ refl).0 h.0 ∙ ap (λ r. front ++ r) h.1
