use Rattle.std.proofs.Common.{◌≡◌, ◌+◌, ◌-◌, ◌≤◌, ◌++◌, List, length, take, true}
use Rattle.capture_actions.specs.Names.{Placed, placed_from}
use Rattle.source_merge.specs.Engine as engine
use Rattle.capture_actions.proofs.reading.count_frames.Given as goal

abbrev pub invariant-loop-done : goal.invariant-loop-done
invariant-loop-done l = record {
  few : l.done ≤ length l.piece;
  same : engine.plan_of l.reading ≡ engine.plan_of l.fn.reading;
  next : engine.next_of l.reading ≡ engine.next_of l.fn.reading + l.done;
  live : engine.is_live l.reading ≡ true;
  list : (u : List Placed) → engine.Stands l.fn.reading u →
      engine.Stands l.reading (u ++ placed_from (engine.next_of l.fn.reading) (take l.done l.piece));
}

abbrev pub decreases-loop-done : goal.decreases-loop-done
decreases-loop-done l = length l.piece - l.done
