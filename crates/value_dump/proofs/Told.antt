-- The bits of a number that says which signals were told.
use Rattle.std.proofs.Common.{◌≡◌, ◌∙◌, ℕ, ◌+◌, ◌-◌, ◌*◌, ◌<◌, ◌≤◌, ◌^◌, List, Option, Some, set}
use Rattle.std.proofs.Common.{ap, sym, arith, inl, inr}
use Rattle.std.specs.Prelude.{◌/◌, ◌%◌}
use Rattle.std.specs.Int.{w64, bit_at, trailing_zeros}
use Rattle.std.specs.Int.RustNames.{bit_or}
use Rattle.std.proofs.lemmas.Bool.{cases_eq}
use Rattle.std.proofs.lemmas.Nat.{shr-shr}
use Rattle.std.proofs.lemmas.Nat.Bits.{bit_at-zero, bit_at-trailing_zeros, bit_at_set_same, bit_at_set_other}
use Rattle.std.proofs.Math.Nat.{div-le_self}
use Rattle.value_dump.specs.Dump.{known}
use Rattle.value_dump.proofs.Changes.{other_value}

-- a bit of a number is one of what is after its first bits
bit_after : (told first number : ℕ) → first ≤ number →
    bit_at told number ≡ bit_at (told / 2 ^ first) (number - first)
bit_after told first number h =
    let e : number ≡ first + (number - first) = omega (arith, h) in
    ap (λ (n : ℕ). told / 2 ^ n % 2) e ∙ sym (ap (λ (n : ℕ). n % 2) (shr-shr told first (number - first)))

-- where nothing is after them, no signal was told
pub none_after : (told first number : ℕ) → told / 2 ^ first ≡ 0 → first ≤ number → bit_at told number ≡ 0
none_after told first number none h =
    bit_after told first number h ∙ ap (λ (n : ℕ). bit_at n (number - first)) none ∙ bit_at-zero (number - first)

-- nor one below the first bit there
pub none_between : (told first number : ℕ) → told < 2 ^ 64 → 0 < told / 2 ^ first → first ≤ number →
    number < first + trailing_zeros w64 (told / 2 ^ first) → bit_at told number ≡ 0
none_between told first number small some h less =
    let fits : told / 2 ^ first < 2 ^ 64 = (let d = div-le_self told (2 ^ first) in omega (arith, d, small)) in
    bit_after told first number h
    ∙ (bit_at-trailing_zeros w64 (told / 2 ^ first) some fits).2 (number - first) (omega (arith, h, less))

-- a signal that is told has its bit from then on, and the others are as before
pub still_quiet : (told number value : ℕ) → number < 64 → (latest stamped : List (Option ℕ)) →
    ((n : ℕ) → bit_at told n ≡ 0 → known latest n ≡ known stamped n) → (n : ℕ) →
    bit_at (bit_or told (1 * 2 ^ number % 2 ^ 64)) n ≡ 0 → known (set latest number (Some value)) n ≡ known stamped n
still_quiet told number value within latest stamped quiet n none = elim (cases_eq n number) [
  | inl e ↦ absurd (
      let same = bit_at_set_same w64 told number within in
      let here = ap (λ (i : ℕ). bit_at (bit_or told (1 * 2 ^ number % 2 ^ 64)) i) e in
      omega (arith, sym here ∙ none, same))
  | inr d ↦ other_value latest number value n d ∙ quiet n (sym (bit_at_set_other w64 told number within n d) ∙ none)
]
