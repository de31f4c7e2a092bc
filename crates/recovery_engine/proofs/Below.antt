-- How many sources have a number below another.
use Rattle.std.proofs.Common.{◌≡◌, ℕ, ◌+◌, ◌≤◌, List, [], ◌∷◌, length, refl, ◌∙◌, arith, Bool, true, false, cond, Some}
use Rattle.std.specs.Prelude.{◌==◌, nat_lt, is_some}
use Rattle.std.specs.List.{count_by}
use Rattle.std.proofs.lemmas.Bool.Decides.{nat_tests}
use Rattle.std.proofs.lemmas.List.Sums.{sum_by-append, count_by-le-length}
use Rattle.recovery_engine.specs.Slots.{source_at}
use Rattle.recovery_engine.specs.declared.slot.RecoveringSlot.{RecoveringSlot}

-- how many slots have an ID below this number
pub below : ℕ → List RecoveringSlot → ℕ
below n slots = count_by (λ s. nat_lt s.id n) slots

below_cons : (n : ℕ) (s : RecoveringSlot) (slots : List RecoveringSlot) →
    below n (s ∷ slots) ≡ cond (nat_lt s.id n) 1 0 + below n slots
unfolding below
below_cons n s slots =
    sum_by-append (λ (t : RecoveringSlot). cond (nat_lt t.id n) 1 0) (s ∷ []) slots
    ∙ (let z : 0 + cond (nat_lt s.id n) 1 0 + below n slots ≡ cond (nat_lt s.id n) 1 0 + below n slots = omega arith in z)

one_more : (i n : ℕ) → cond (nat_lt i n) 1 0 ≤ cond (nat_lt i (n + 1)) 1 0
one_more i n = by (nat_lt i n) refl (nat_lt i (n + 1)) refl where
  by : (t : Bool) → nat_lt i n ≡ t → (u : Bool) → nat_lt i (n + 1) ≡ u → cond t 1 0 ≤ cond u 1 0
  by true p true q = omega arith
  by true p false q = absurd (grind (arith, nat_tests))
  by false p true q = omega arith
  by false p false q = omega arith

one_found : (i n : ℕ) → (i == n) ≡ true → cond (nat_lt i n) 1 0 + 1 ≤ cond (nat_lt i (n + 1)) 1 0
one_found i n e = by (nat_lt i n) refl (nat_lt i (n + 1)) refl where
  by : (t : Bool) → nat_lt i n ≡ t → (u : Bool) → nat_lt i (n + 1) ≡ u → cond t 1 0 + 1 ≤ cond u 1 0
  by true p u q = absurd (grind (arith, nat_tests))
  by false p true q = omega arith
  by false p false q = absurd (grind (arith, nat_tests))

pub below_more : (n : ℕ) (slots : List RecoveringSlot) → below n slots ≤ below (n + 1) slots
unfolding below
below_more n [] = omega arith
below_more n (s ∷ slots) =
    (let a = below_cons n s slots in let b = below_cons (n + 1) s slots in
    let d = one_more s.id n in let f = below_more n slots in omega arith)

-- where there is a source of this number
pub below_found : (n : ℕ) (slots : List RecoveringSlot) → is_some (source_at slots n) ≡ true →
    below n slots + 1 ≤ below (n + 1) slots
unfolding below
below_found n [] e = cc
below_found n (s ∷ slots) e = by (s.id == n) refl e (λ h. below_found n slots h) where
  by : (t : Bool) → (s.id == n) ≡ t → is_some (cond t (Some s.source) (source_at slots n)) ≡ true →
      (is_some (source_at slots n) ≡ true → below n slots + 1 ≤ below (n + 1) slots) →
      below n (s ∷ slots) + 1 ≤ below (n + 1) (s ∷ slots)
  by true p h rest =
      (let a = below_cons n s slots in let b = below_cons (n + 1) s slots in
      let d = one_found s.id n p in let f = below_more n slots in omega arith)
  by false p h rest =
      (let a = below_cons n s slots in let b = below_cons (n + 1) s slots in
      let d = one_more s.id n in let f = rest h in omega arith)

pub below_all : (n : ℕ) (slots : List RecoveringSlot) → below n slots ≤ length slots
unfolding below
below_all n slots = count_by-le-length (λ (s : RecoveringSlot). nat_lt s.id n) slots
