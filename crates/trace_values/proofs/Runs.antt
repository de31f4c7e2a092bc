-- The run at the end of the units, and where a pattern ends.
use Rattle.std.proofs.Common.{◌≡◌, ◌≢◌, ℕ, suc, ◌+◌, ◌<◌, ◌≤◌, List, [], ◌∷◌, ◌++◌, length, replicate, refl, sym, ap, ◌⊎◌, inl, inr, ◌↔◌, arith, subst, length-append, Bool, true, false, cond}
use Rattle.std.specs.Prelude.{◌==◌, nat_lt, IsTrue}
use Rattle.std.proofs.lemmas.Bool.Decides.{nat_tests}
use Rattle.std.proofs.lemmas.List.{length-replicate}
use Rattle.std.proofs.lemmas.Bool.{ne_eqb}
use Rattle.trace_values.specs.declared.pattern.Pattern.{Pattern}
use Rattle.trace_values.specs.Hunt.{EndsWith, EndsInRun}
use Rattle.trace_values.specs.Hunted.{pattern_of, run_after}
use Rattle.trace_values.proofs.Hunts.{ends_here, not_here, run_more, run_full, run_over}

run_cases : (b a run most : ℕ) →
    ((b ≡ a) × (run < most) × (cond (b == a) (cond (nat_lt run most) (suc run) most) 0 ≡ run + 1))
    ⊎ ((b ≡ a) × (most ≤ run) × (cond (b == a) (cond (nat_lt run most) (suc run) most) 0 ≡ most))
    ⊎ ((b ≢ a) × (cond (b == a) (cond (nat_lt run most) (suc run) most) 0 ≡ 0))
run_cases b a run most = grind (arith, nat_tests)

long : (run most : ℕ) → run ≤ most → (((run == most) ≡ true) × (run ≡ most)) ⊎ (((run == most) ≡ false) × (run < most))
long run most h = grind (arith, nat_tests)

-- before the first unit there is no run
pub no_run : (a most : ℕ) → EndsInRun a most 0 []
no_run a most = record { within = omega arith; ends = ([], refl); no_more = λ h v e. none_ends v e } where
  none_ends : (v : List ℕ) → [] ≡ v ++ replicate 1 a → ⊥
  none_ends v e = let k = ap length e in let l = length-append v (replicate 1 a) in let n = length-replicate 1 a in let i : length {A = ℕ} [] ≡ 0 = refl in omega arith

module _ (p : Pattern) (apart : p.unit ≢ p.last) where
  -- another unit ends the run, a shorter one grows, and a longer one stays
  pub over : (run b : ℕ) (u : List ℕ) → b ≢ p.unit → EndsInRun p.unit p.most 0 (u ++ b ∷ [])
  over run b u n = run_over p.unit p.last p.most apart b run u n

  pub grown : (run b : ℕ) (u : List ℕ) → b ≡ p.unit → run < p.most → EndsInRun p.unit p.most run u → EndsInRun p.unit p.most (run + 1) (u ++ b ∷ [])
  grown run b u e h r =
      subst (λ (n : ℕ). EndsInRun p.unit p.most n (u ++ b ∷ [])) (let k : suc run ≡ run + 1 = omega arith in k)
      (subst (λ (x : ℕ). EndsInRun p.unit p.most (suc run) (u ++ x ∷ [])) (sym e) (run_more p.unit p.last p.most apart run u h r))

  pub full : (run b : ℕ) (u : List ℕ) → b ≡ p.unit → p.most ≤ run → EndsInRun p.unit p.most run u → EndsInRun p.unit p.most p.most (u ++ b ∷ [])
  full run b u e h r =
      subst (λ (x : ℕ). EndsInRun p.unit p.most p.most (u ++ x ∷ [])) (sym e)
      (run_full p.unit p.last p.most apart u (subst (λ (k : ℕ). EndsInRun p.unit p.most k u) (let k : run ≡ p.most = (let w = r.within in omega arith) in k) r))

  pub run_on : (run b : ℕ) (u : List ℕ) → EndsInRun p.unit p.most run u → EndsInRun p.unit p.most (run_after p run b) (u ++ b ∷ [])
  run_on run b u r = elim (run_cases b p.unit run p.most) [
    | inl m ↦ subst (λ (n : ℕ). EndsInRun p.unit p.most n (u ++ b ∷ [])) (sym m.2) (grown run b u m.0 m.1 r)
    | inr m ↦ elim m [
      | inl n ↦ subst (λ (n : ℕ). EndsInRun p.unit p.most n (u ++ b ∷ [])) (sym n.2) (full run b u n.0 n.1 r)
      | inr n ↦ subst (λ (n : ℕ). EndsInRun p.unit p.most n (u ++ b ∷ [])) (sym n.1) (over run b u n.0)
    ]
  ]

  -- the pattern ends with the last unit exactly where the run was long enough, and with no other
  pub long_ends : (run b : ℕ) (u : List ℕ) → b ≡ p.last → EndsInRun p.unit p.most run u → IsTrue (run == p.most) ↔ EndsWith (pattern_of p) (u ++ b ∷ [])
  long_ends run b u e r = elim (long run p.most r.within) [
    | inl m ↦ subst (λ (x : Bool). IsTrue x ↔ EndsWith (pattern_of p) (u ++ b ∷ [])) (sym m.0)
        (subst (λ (x : ℕ). IsTrue true ↔ EndsWith (pattern_of p) (u ++ x ∷ [])) (sym e) ((λ _. ends_here p.unit p.last p.most apart run u r m.1), λ _. refl))
    | inr m ↦ subst (λ (x : Bool). IsTrue x ↔ EndsWith (pattern_of p) (u ++ b ∷ [])) (sym m.0)
        ((λ f. (let k : false ≡ true = f in cc)), λ s. absurd (not_here p.unit p.last p.most apart run b u r (inr m.1) s.0 s.1))
  ]

  pub no_end : (run b : ℕ) (u : List ℕ) → b ≢ p.last → EndsInRun p.unit p.most run u → IsTrue (b == p.last) ↔ EndsWith (pattern_of p) (u ++ b ∷ [])
  no_end run b u n r = subst (λ (x : Bool). IsTrue x ↔ EndsWith (pattern_of p) (u ++ b ∷ [])) (sym (ne_eqb b p.last n))
      ((λ f. (let k : false ≡ true = f in cc)), λ s. absurd (not_here p.unit p.last p.most apart run b u r (inl n) s.0 s.1))
