-- The two halves of a frame.
use Rattle.std.proofs.Common.{◌≡◌, ℕ, ◌+◌, ◌-◌, ◌*◌, ◌<◌, ◌≤◌, List, length, take, drop, refl, sym, ◌∙◌, ap, arith, nat_lt, Bool, true, false}
use Rattle.std.specs.Prelude.{slice_index, ◌&&◌, IsTrue}
use Rattle.std.proofs.lemmas.Bool.Decides.{nat_tests}
use Rattle.std.proofs.lemmas.List.{get_or-take, get_or-drop}
use Rattle.frame_grammar.specs.Frame.{IsProperBelow, IsProperFrame}

module _ (first last frame : List ℕ) (size : length frame ≡ 16) (f : first ≡ take 8 frame) (l : last ≡ drop (length frame - 8) frame) where
  at_first : (i : ℕ) → i < 8 → slice_index first i ≡ slice_index frame i
  at_first i h = ap (λ (xs : List ℕ). slice_index xs i) f ∙ get_or-take 8 frame i 0 h

  at_last : (i : ℕ) → slice_index last i ≡ slice_index frame (8 + i)
  at_last i = ap (λ (xs : List ℕ). slice_index xs i) (l ∙ ap (λ (n : ℕ). drop n frame) (let e : length frame - 8 ≡ 8 = omega arith in e)) ∙ get_or-drop 8 frame i 0

  proper_of_halves : IsProperBelow 4 first → IsProperBelow 4 last → IsProperFrame frame
  proper_of_halves p q k h e = by (nat_lt k 4) refl where
    by : (t : Bool) → nat_lt k 4 ≡ t → ⊥
    by true d =
        let m : k < 4 = grind (arith, nat_tests) in
        p k m (at_first (2 * k) (omega arith) ∙ e)
    by false d =
        let m : 4 ≤ k = grind (arith, nat_tests) in
        q (k - 4) (omega arith) (at_last (2 * (k - 4)) ∙ ap (slice_index frame) (let g : 8 + 2 * (k - 4) ≡ 2 * k = omega arith in g) ∙ e)

  first_half : IsProperFrame frame → IsProperBelow 4 first
  first_half p k h e = p k (omega arith) (sym (at_first (2 * k) (omega arith)) ∙ e)

  last_half : IsProperFrame frame → IsProperBelow 4 last
  last_half p k h e =
      p (4 + k) (omega arith) (ap (slice_index frame) (let g : 2 * (4 + k) ≡ 8 + 2 * k = omega arith in g) ∙ sym (at_last (2 * k)) ∙ e)

  -- both are proper exactly where the frame is
  pub proper_halves : (a b : Bool) → ((IsTrue a → IsProperBelow 4 first) × (IsProperBelow 4 first → IsTrue a)) →
      ((IsTrue b → IsProperBelow 4 last) × (IsProperBelow 4 last → IsTrue b)) →
      (IsTrue (a && b) → IsProperFrame frame) × (IsProperFrame frame → IsTrue (a && b))
  proper_halves true true a b = ((λ t. proper_of_halves (a.0 refl) (b.0 refl)), (λ p. refl))
  proper_halves true false a b = ((λ t. cc), (λ p. b.1 (last_half p)))
  proper_halves false b a c = ((λ t. cc), (λ p. a.1 (first_half p)))
