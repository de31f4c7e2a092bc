-- Tests, and what they say.
use Rattle.std.proofs.Common.{◌≡◌, ℕ, ◌+◌, ◌<◌, List, [], ◌∷◌, length, Bool, true, false, cond, refl, ◌⊎◌, inl, inr, arith}
use Rattle.std.specs.Prelude.{◌==◌}
use Rattle.std.proofs.lemmas.Bool.Decides.{nat_tests}
use Rattle.stp_grammar.specs.Names.{nibble_count}

-- a choice by a test is one of the two
pub chosen : {A : Type 0} (t : Bool) {x y z : A} → cond t x y ≡ z → ((t ≡ true) × (x ≡ z)) ⊎ ((t ≡ false) × (y ≡ z))
chosen true e = inl (refl, e)
chosen false e = inr (refl, e)

pub is_zero : (n : ℕ) → (n == 0) ≡ true → n ≡ 0
is_zero n e = grind (arith, nat_tests)

pub not_zero : (n : ℕ) → (n == 0) ≡ false → 0 < n
not_zero n e = grind (arith, nat_tests)

pub still_under : (n m : ℕ) → n < m → (n + 1 == m) ≡ false → n + 1 < m
still_under n m h e = grind (arith, nat_tests)

pub some_word : (size : ℕ) → 0 < size → 0 < nibble_count size
some_word size h = grind (arith, nat_tests)

-- a list of no elements
pub empty : {A : Type 0} (r : List A) → length r ≡ 0 → r ≡ []
empty [] e = refl
empty (x ∷ r) e = cc
