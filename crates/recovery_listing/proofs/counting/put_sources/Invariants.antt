use Rattle.std.proofs.Common.{◌≡◌, ℕ, ◌+◌, ◌*◌, ◌≤◌, ◌++◌, List, length}
use Rattle.trace_values.specs.Placed.{placed}
use Rattle.recovery_report.specs.Counts.{source_counts_of}
use Rattle.capture_actions.specs.Summary.{sources_text}
use Rattle.capture_actions.specs.declared.check.TheConstants.{SOURCE_ROOM}
use Rattle.recovery_listing.specs.Counting.{HasTallied, plan_of}
use Rattle.recovery_listing.proofs.counting.put_sources.Given as goal

abbrev pub invariant-loop-number : goal.invariant-loop-number
invariant-loop-number l = record {
  text : (seen : List ℕ) → HasTallied l.engine l.heard seen →
      l.outlet ≡ l.fn.outlet ++ sources_text (source_counts_of (plan_of l.engine) (placed seen)) l.number;
  bound : length l.outlet ≤ length l.fn.outlet + l.number * SOURCE_ROOM;
}
