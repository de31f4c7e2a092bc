use Rattle.std.proofs.Common.{◌<◌, ℕ}
use Rattle.trace_clock.proofs.LastWords.{IsSame}
use Rattle.trace_clock.proofs.words.least_stamp.Given as goal

abbrev pub invariant-loop-size : goal.invariant-loop-size
invariant-loop-size l = (s : ℕ) → s < l.size → IsSame l.last l.target s → ⊥
