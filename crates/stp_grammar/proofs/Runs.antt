-- A run of nibbles F, and what ends it.
use Rattle.std.proofs.Common.{◌≡◌, ℕ, zero, suc, ◌+◌, ◌≤◌, List, [], ◌∷◌, ◌++◌, replicate, sym, ◌∙◌, ap, ◌⊎◌, inl, inr, arith}
use Rattle.std.proofs.lemmas.Bool.Decides.{nat_tests}
use Rattle.stp_grammar.specs.Names.{BadAsync, Next, Go, End, Fail, Whole}
use Rattle.stp_grammar.specs.declared.packet.Order.{Order}
use Rattle.stp_grammar.specs.declared.packet.Order.TheVariants.{Msn}
use Rattle.stp_grammar.specs.declared.packet.StpPacket.{StpPacket}
use Rattle.stp_grammar.specs.declared.packet.StpPacket.TheVariants.{Async}
use Rattle.stp_grammar.specs.declared.partial.Partial.{Partial}
use Rattle.stp_grammar.specs.declared.partial.Partial.TheVariants.{Run}
use Rattle.stp_grammar.specs.Rule.{rule}
use Rattle.stp_grammar.proofs.Walking.{from, says, end_whole}

-- a nibble after a run of F; the order of nibbles says nothing of it
abbrev pub run_with : ℕ → ℕ → Next Partial StpPacket
run_with count b = rule Msn (Run count) b

module _ (order : Order) where
  -- a run of F, and what ends it
  pub run_cases : (n b : ℕ) → ((b ≡ 15) × (run_with n b ≡ Go (Run (n + 1)))) ⊎ ((b ≡ 0) × (21 ≤ n) × (run_with n b ≡ End Async)) ⊎ (run_with n b ≡ Fail BadAsync)
  run_cases n b = grind (arith, nat_tests)

  pub run_end : (n : ℕ) → 21 ≤ n → run_with n 0 ≡ End Async
  run_end n h = grind (arith, nat_tests)

  pub walk_run : (k n : ℕ) (w : List ℕ) → from order (Run n) (replicate k 15 ++ w) ≡ from order (Run (n + k)) w
  walk_run zero n w = ap (λ (m : ℕ). from order (Run m) w) (let e : n ≡ n + 0 = omega arith in e)
  walk_run (suc k) n w = walk_run k (n + 1) w ∙ ap (λ (m : ℕ). from order (Run m) w) (let e : n + 1 + k ≡ n + suc k = omega arith in e)

  pub run_complete : (k n : ℕ) → 21 ≤ n + k → from order (Run n) (replicate k 15 ++ 0 ∷ []) ≡ Whole Async
  run_complete k n h = walk_run k n (0 ∷ []) ∙ says order (run_with (n + k) 0) (End Async) [] (run_end (n + k) h)

  pub run_sound : (n : ℕ) (r : List ℕ) (x : StpPacket) → from order (Run n) r ≡ Whole x → (x ≡ Async) × (k : ℕ) × (21 ≤ n + k) × (r ≡ replicate k 15 ++ 0 ∷ [])
  run_sound n [] x e = cc
  run_sound n (b ∷ r) x e = elim (run_cases n b) [
    | inl m ↦
        let s = run_sound (n + 1) r x (sym (says order (run_with n b) (Go (Run (n + 1))) r m.1) ∙ e) in
        (s.0, suc s.1, (let h = s.2 in omega arith), (let a : b ≡ 15 = m.0 in let q : r ≡ replicate s.1 15 ++ 0 ∷ [] = s.3 in cc))
    | inr m ↦ elim m [
      | inl o ↦
          let t = end_whole Async x (λ t. from order t r) r (sym (says order (run_with n b) (End Async) r o.2) ∙ e) in
          (sym t.0, 0, (let h = o.1 in omega arith), (let a : b ≡ 0 = o.0 in let q : r ≡ [] = t.1 in cc))
      | inr o ↦ (let k = sym (says order (run_with n b) (Fail BadAsync) r o) ∙ e in cc)
    ]
  ]
