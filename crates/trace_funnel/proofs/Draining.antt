-- A drain, turn by turn.
use Rattle.std.proofs.Common.{◌≡◌, ℕ, zero, suc, ◌<◌, ◌≤◌, List, cond, nat_lt, ◌∙◌, ap, arith}
use Rattle.std.proofs.lemmas.Bool.{lt-ltb}
use Rattle.trace_funnel.specs.Turns.{Place, turn, turns_while, load, drain}
use Rattle.trace_funnel.proofs.Acting.{enough}
use Rattle.trace_funnel.proofs.Emptying.{has_bytes, less_load, drained}
use Rattle.trace_funnel.proofs.Turning.{turn_and, stay}

-- where no byte waits there is no turn
pub drain_none : (hold : ℕ) (ps : List Place) → load ps ≡ 0 → drain hold ps ≡ stay ps
drain_none hold ps e = ap (λ n. turns_while has_bytes hold n ps) e

-- where one waits there is a turn, and then the drain of what is left
pub drain_turn : (hold : ℕ) (ps : List Place) → 1 ≤ hold → 0 < load ps →
    drain hold ps ≡ turn_and hold ps (drain hold (turn hold ps).places)
drain_turn hold ps some busy = by (load ps) (less_load hold ps some busy) where
  qs : List Place
  qs = (turn hold ps).places

  by : (n : ℕ) → load qs < n → turns_while has_bytes hold n ps ≡ turn_and hold ps (drain hold qs)
  by zero less = absurd (omega arith)
  by (suc n) less =
      ap (λ t. cond t (turn_and hold ps (turns_while has_bytes hold n qs)) (stay ps)) (lt-ltb 0 (load ps) busy)
      ∙ ap (turn_and hold ps) (enough has_bytes hold (load qs) n qs (omega (arith, less))
      (ap (nat_lt 0) (drained hold (load qs) qs some (omega arith))))
