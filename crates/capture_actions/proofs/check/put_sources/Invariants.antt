use Rattle.std.proofs.Common.{◌≡◌, ◌+◌, ◌*◌, ◌≤◌, ◌++◌, List, length}
use Rattle.capture_actions.specs.Names.{Placed, Stands, plan_of, source_counts_of}
use Rattle.capture_actions.specs.Summary.{sources_text}
use Rattle.capture_actions.specs.declared.check.TheConstants.{SOURCE_ROOM}
use Rattle.capture_actions.proofs.check.put_sources.Given as goal

abbrev pub invariant-loop-number : goal.invariant-loop-number
invariant-loop-number l = record {
  text : (u : List Placed) → Stands l.reading u →
      l.outlet ≡ l.fn.outlet ++ sources_text (source_counts_of (plan_of l.reading) u) l.number;
  bound : length l.outlet ≤ length l.fn.outlet + l.number * SOURCE_ROOM;
}
