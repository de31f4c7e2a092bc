-- The digits of a number in binary, from the last one on.
use Rattle.std.proofs.Common.{◌≡◌, ◌∙◌, ℕ, ◌+◌, ◌-◌, ◌^◌, ◌<◌, ◌≤◌, List, [], length, drop, ap, sym, arith, inl, inr}
use Rattle.std.proofs.DigitsParse.{digits_onto_last, digits_onto_step}
use Rattle.std.proofs.lemmas.Bool.{cases_eq}
use Rattle.std.proofs.Math.ListN.{drop_of_length-le}
use Rattle.std.specs.Prelude.{false, ◌==◌, ◌/◌, ◌%◌, Bool, true, cond, ◌∷◌, zero, suc}
use Rattle.std.specs.Fmt.{digits_onto, digits, digit_glyph}
use Rattle.value_dump.specs.Lines.{binary}

-- before the first digit
no_digit : (k value : ℕ) (out : List ℕ) → length out ≡ k →
    digits_onto k 2 false value (drop k out) ≡ digits_onto k 2 false value []
no_digit k value out h = ap (digits_onto k 2 false value) (drop_of_length-le out {i = k} (omega (arith, h)))

pub at_first : (value : ℕ) (out : List ℕ) → length out ≡ 32 → digits_onto 32 2 false value (drop 32 out) ≡ binary value
unfolding binary
at_first value out h = no_digit 32 value out h

one_more : (k glyph : ℕ) (acc more : List ℕ) → length more ≤ k + length (glyph ∷ acc) → (t : Bool) →
    length (cond t (glyph ∷ acc) more) ≤ suc k + length acc
one_more k glyph acc more h true = omega arith
one_more k glyph acc more h false = omega (arith, h)

-- there are at most as many as are asked for
few_onto : (k n : ℕ) (acc : List ℕ) → length (digits_onto k 2 false n acc) ≤ k + length acc
few_onto zero n acc = omega arith
few_onto (suc k) n acc =
    let glyph : ℕ = digit_glyph false (n % 2) in
    one_more k glyph acc (digits_onto k 2 false (n / 2) (glyph ∷ acc)) (few_onto k (n / 2) (glyph ∷ acc)) (n / 2 == 0)

pub few_digits : (value : ℕ) → length (binary value) ≤ 32
unfolding binary
few_digits value = few_onto 32 value []

-- how many digits are asked for does not matter where they are enough
enough : (j k n : ℕ) (acc : List ℕ) → n < 2 ^ suc j → n < 2 ^ suc k →
    digits_onto (suc j) 2 false n acc ≡ digits_onto (suc k) 2 false n acc
enough zero k n acc p q =
    digits_onto_last 2 false n acc 1 (omega arith) (omega (arith, p))
    ∙ sym (digits_onto_last 2 false n acc (suc k) (omega arith) (omega (arith, p)))
enough (suc j) zero n acc p q =
    digits_onto_last 2 false n acc (suc (suc j)) (omega arith) (omega (arith, q))
    ∙ sym (digits_onto_last 2 false n acc 1 (omega arith) (omega (arith, q)))
enough (suc j) (suc k) n acc p q =
    let more : List ℕ = digit_glyph false (n % 2) ∷ acc in
    let less : (i : ℕ) → suc (suc i) - 1 ≡ suc i = (λ i. omega arith) in
    elim (cases_eq (n / 2) 0) [
      | inl e ↦ (
          digits_onto_last 2 false n acc (suc (suc j)) (omega arith) e
          ∙ sym (digits_onto_last 2 false n acc (suc (suc k)) (omega arith) e)
          )
      | inr d ↦ (
          digits_onto_step 2 false n acc (suc (suc j)) (omega arith) d
          ∙ ap (λ (i : ℕ). digits_onto i 2 false (n / 2) more) (less j)
          ∙ enough j k (n / 2) more (omega (arith, p)) (omega (arith, q))
          ∙ sym (ap (λ (i : ℕ). digits_onto i 2 false (n / 2) more) (less k))
          ∙ sym (digits_onto_step 2 false n acc (suc (suc k)) (omega arith) d)
          )
    ]

pub in_binary : (value : ℕ) → value < 2 ^ 32 → binary value ≡ digits 2 false value
unfolding binary digits
in_binary value h = enough 31 63 value [] h (omega (arith, h))
