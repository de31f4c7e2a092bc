-- Rules of small tables, which the checker computes number by number.
use Rattle.std.proofs.Common.{◌≡◌, ℕ, zero, suc, ◌<◌, Bool, true, false, refl, ◌∙◌, ap, arith}
use Rattle.std.specs.Prelude.{◌==◌, ◌&&◌}
use Rattle.std.proofs.lemmas.Bool.Decides.{nat_tests}
use Rattle.std.proofs.lemmas.Bool.{and_parts}

-- this is so of all numbers below n
unfoldable pub under : (ℕ → Bool) → ℕ → Bool
under p zero = true
under p (suc n) = p n && under p n

pub below : (p : ℕ → Bool) (n k : ℕ) → k < n → under p n ≡ true → p k ≡ true
unfolding under
below p zero k l e = absurd (omega arith)
below p (suc n) k l e = by (λ (h : k < n). below p n k h (and_parts (p n) (under p n) e).1) (k == n) refl where
  by : (k < n → p k ≡ true) → (t : Bool) → (k == n) ≡ t → p k ≡ true
  by f true h = ap p (grind (arith, nat_tests)) ∙ (and_parts (p n) (under p n) e).0
  by f false h = f (grind (arith, nat_tests))

unfoldable pub same : Bool → Bool → Bool
same true b = b
same false true = false
same false false = true

pub is_same : (a b : Bool) → same a b ≡ true → a ≡ b
unfolding same
is_same true true e = refl
is_same true false e = cc
is_same false true e = cc
is_same false false e = refl
