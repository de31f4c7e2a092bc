-- Units with their places, and grammars that look at the units alone.
use Rattle.std.proofs.Common.{◌≡◌, ℕ, suc, ◌+◌, ◌<◌, List, [], ◌∷◌, ◌++◌, length, map, take, get_or, refl, sym, ◌∙◌, ap, subst, append_assoc, arith}
use Rattle.std.proofs.lemmas.List.{map-append, take_more, length-take-le}
use Rattle.trace_values.specs.declared.fault.Reason.{Reason}
use Rattle.trace_values.specs.declared.next.Next.{Next}
use Rattle.trace_values.specs.declared.next.Next.TheVariants.{Go, End, Fail}
use Rattle.trace_values.specs.Placed.{Placed, units_of, byte_at, placed_from, placed}
use Rattle.trace_values.specs.Grammar.{IsFront, InUnits}
use Rattle.trace_values.specs.Walk.{Walked, Within, after, walk, Decides, by_unit}

pub units_push : (r : List Placed) (b : Placed) → units_of (r ++ b ∷ []) ≡ units_of r ++ b.unit ∷ []
units_push r b = map-append (λ (p : Placed). p.unit) r (b ∷ [])

-- a list whose units are those of two is two lists
pub parts_of : (u : List Placed) (a b : List ℕ) → units_of u ≡ a ++ b → (v : List Placed) × (w : List Placed) × (u ≡ v ++ w) × (units_of v ≡ a) × (units_of w ≡ b)
parts_of u [] b e = ([], u, refl, refl, e)
parts_of [] (x ∷ a) b e = cc
parts_of (p ∷ u) (x ∷ a) b e =
    let here : p.unit ≡ x = cc in
    let there : units_of u ≡ a ++ b = cc in
    let more = parts_of u a b there in
    let k : units_of more.0 ≡ a = more.3 in
    ((p ∷ more.0), more.1, ap (λ l. p ∷ l) more.2, cc, more.4)

pub placed_from_push : (at : ℕ) (bytes : List ℕ) (b : ℕ) → placed_from at (bytes ++ b ∷ []) ≡ placed_from at bytes ++ byte_at (at + length bytes) b ∷ []
placed_from_push at [] b = ap (λ (n : ℕ). byte_at n b ∷ []) (let k : at ≡ at + 0 = omega arith in k)
placed_from_push at (c ∷ bytes) b =
    ap (λ (l : List Placed). byte_at at c ∷ l) (placed_from_push (at + 1) bytes b
    ∙ ap (λ (n : ℕ). placed_from (at + 1) bytes ++ byte_at n b ∷ []) (let k : at + 1 + length bytes ≡ at + suc (length bytes) = omega arith in k))

-- one more byte of the piece, at its offset
pub next_placed : (u : List Placed) (at : ℕ) (piece : List ℕ) (i : ℕ) → i < length piece →
    (u ++ placed_from at (take i piece)) ++ byte_at (at + i) (get_or piece i 0) ∷ [] ≡ u ++ placed_from at (take (i + 1) piece)
next_placed u at piece i h =
    append_assoc u (placed_from at (take i piece)) (byte_at (at + i) (get_or piece i 0) ∷ [])
    ∙ ap (λ (l : List Placed). u ++ l)
    (ap (λ (n : ℕ). placed_from at (take i piece) ++ byte_at (at + n) (get_or piece i 0) ∷ []) (sym (length-take-le i piece (omega arith)))
    ∙ sym (placed_from_push at (take i piece) (get_or piece i 0)) ∙ ap (placed_from at) (sym (take_more piece i 0 h)))

pub placed_from_append : (at : ℕ) (xs ys : List ℕ) → placed_from at (xs ++ ys) ≡ placed_from at xs ++ placed_from (at + length xs) ys
placed_from_append at [] ys = ap (λ (n : ℕ). placed_from n ys) (let k : at ≡ at + 0 = omega arith in k)
placed_from_append at (c ∷ xs) ys =
    ap (λ (l : List Placed). byte_at at c ∷ l) (placed_from_append (at + 1) xs ys
    ∙ ap (λ (n : ℕ). placed_from (at + 1) xs ++ placed_from n ys) (let k : at + 1 + length xs ≡ at + suc (length xs) = omega arith in k))

-- a capture with more bytes
pub placed_append : (xs ys : List ℕ) → placed (xs ++ ys) ≡ placed xs ++ placed_from (length xs) ys
placed_append xs ys = placed_from_append 0 xs ys ∙ ap (λ (n : ℕ). placed xs ++ placed_from n ys) (let k : 0 + length xs ≡ length xs = omega arith in k)

pub length-placed_from : (at : ℕ) (bytes : List ℕ) → length (placed_from at bytes) ≡ length bytes
length-placed_from at [] = refl
length-placed_from at (b ∷ bytes) = ap suc (length-placed_from (at + 1) bytes)

-- units at some place
unplaced : List ℕ → List Placed
unplaced u = map (λ n. byte_at 0 n) u

units_of-unplaced : (u : List ℕ) → units_of (unplaced u) ≡ u
unfolding unplaced
units_of-unplaced [] = refl
units_of-unplaced (n ∷ u) = ap (λ (l : List ℕ). n ∷ l) (units_of-unplaced u)

module _ {S V : Type 0} (rule : S → ℕ → Next S V) where
  after_units : (x : Next S V) (k l : S → Walked S V) (r : List Placed) → ((t : S) → k t ≡ l t) → after x k r ≡ after x l (units_of r)
  after_units (Go t) k l r h = h t
  after_units (End v) k l [] h = refl
  after_units (End v) k l (b ∷ r) h = refl
  after_units (Fail e) k l r h = refl

  pub walk_units : (s : S) (r : List Placed) → walk (by_unit rule) s r ≡ walk rule s (units_of r)
  walk_units s [] = refl
  walk_units s (b ∷ r) = after_units (rule s b.unit) (λ t. walk (by_unit rule) t r) (λ t. walk rule t (units_of r)) r (λ t. walk_units t r)

  -- a rule that decides a grammar of units decides it of placed units
  pub on_units : (Spells : V → List ℕ → Type 0) (why : List ℕ → Reason) (start : S) → Decides Spells why rule start →
      Decides (InUnits Spells) (λ r. why (units_of r)) (by_unit rule) start
  on_units Spells why start d = record {
    sound = λ v r e. d.sound v (units_of r) (sym (walk_units start r) ∙ e);
    complete = λ v r s. walk_units start r ∙ d.complete v (units_of r) s;
    goes_on = λ s r e. goes_on s r e;
    reason = λ s r b e w f. d.reason s (units_of r) b.unit e (sym (walk_units start r) ∙ w) f ∙ ap why (sym (units_push r b));
  } where
    goes_on : (s : S) (r : List Placed) → walk (by_unit rule) start r ≡ Within s → IsFront (InUnits Spells) r
    goes_on s r e =
        let f = d.goes_on s (units_of r) (sym (walk_units start r) ∙ e) in (
          f.0,
          unplaced f.1,
          subst (λ (l : List ℕ). Spells f.0 l)
              (ap (λ (l : List ℕ). units_of r ++ l) (sym (units_of-unplaced f.1)) ∙ sym (map-append (λ (p : Placed). p.unit) r (unplaced f.1))) f.2,
        )
