use Rattle.std.proofs.Common.{length}
use Rattle.frame_runs.specs.Split.{IsLeft, left_cells, split_cells}
use Rattle.recovery_engine.proofs.Frames.{SoFar}
use Rattle.recovery_engine.proofs.router.take_whole.Given as goal

-- the runs so far are taken
abbrev pub invariant-loop-run : goal.invariant-loop-run
invariant-loop-run g l = record {
  left : IsLeft l.split l.left;
  so_far : SoFar g.V.Receiver.gets g.V.Receiver.room (split_cells l.split) (l.fn.slots, (l.fn.out, l.fn.to))
      (left_cells l.split l.left) (l.slots, (l.out, l.to));
}

abbrev pub decreases-loop-run : goal.decreases-loop-run
decreases-loop-run g l = length (left_cells l.split l.left)
