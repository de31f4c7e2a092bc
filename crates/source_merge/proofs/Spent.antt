-- How many events were given, by what is left of the room for them.
use Rattle.std.proofs.Common.{◌≤◌, ◌+◌, ℕ, arith}
use Rattle.std.specs.Prelude.{min}
use Rattle.std.proofs.Math.Nat.{min-eq_left, min-le_left}

module _ (left room left' room' : ℕ) where
  fewer : (n : ℕ) → left ≤ room → min left room ≤ min left' room' + n → left ≤ left' + n
  fewer n within h =
      let a = min-eq_left within in
      let b = min-le_left left' room' in
      omega (arith, h, a, b)

  pub spent : (old new n : ℕ) → left ≤ room → new + left' ≤ old + left → min left room ≤ min left' room' + n →
      new ≤ old + n
  spent old new n within s h = let a = fewer n within h in omega (arith, a, s)

  pub spared : (most : ℕ) → left ≤ most → room + left' ≤ room' + left → room ≤ room' + most
  spared most below s = omega (arith, below, s)
