use Rattle.std.proofs.Common.{◌≡◌, length}
use Rattle.frame_runs.specs.Pairs.{ends_left}
use Rattle.frame_runs.specs.Split.{IsLeft, left_cells}
use Rattle.frame_runs.proofs.split.SplitFrame.next_run.Given as goal

-- no run that had a byte ended so far
abbrev pub invariant-loop-pair : goal.invariant-loop-pair
invariant-loop-pair l = record {
  left : IsLeft l.self l.left;
  same : left_cells l.self l.left ≡ left_cells l.self l.fn.left;
}

abbrev pub decreases-loop-pair : goal.decreases-loop-pair
decreases-loop-pair l = length (ends_left l.left.ends)
