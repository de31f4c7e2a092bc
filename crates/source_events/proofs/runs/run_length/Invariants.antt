use Rattle.std.proofs.Common.{◌≡◌, ◌<◌, ◌≤◌, ◌+◌, ◌-◌, length, get_or, drop}
use Rattle.trace_values.specs.declared.cell.Cell.{Cell}
use Rattle.source_events.specs.Runs.{more_of, run_length}
use Rattle.source_events.proofs.runs.run_length.Given as goal

abbrev pub invariant-loop-n : goal.invariant-loop-n
invariant-loop-n l = record {
  some : 0 < l.n;
  within : l.n ≤ length l.cells;
  counted : (d : Cell) → l.n + more_of (get_or l.cells (l.n - 1) d) (drop l.n l.cells) ≡ run_length l.cells;
}

abbrev pub decreases-loop-n : goal.decreases-loop-n
decreases-loop-n l = length l.cells - l.n
