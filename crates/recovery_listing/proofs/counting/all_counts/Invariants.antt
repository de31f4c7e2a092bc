use Rattle.std.proofs.Common.{◌≡◌, ◌<◌, ℕ, List, get_or, length}
use Rattle.trace_values.specs.Placed.{placed}
use Rattle.trace_values.specs.declared.limits.TheConstants.{ID_COUNT}
use Rattle.recovery_report.specs.Counts.{source_counts_of}
use Rattle.capture_actions.specs.Kinds.{none}
use Rattle.recovery_listing.specs.Counting.{HasTallied, plan_of}
use Rattle.recovery_listing.proofs.counting.all_counts.Given as goal

abbrev pub invariant-loop-number : goal.invariant-loop-number
invariant-loop-number l = record {
  size : length l.counts ≡ ID_COUNT;
  counted : (seen : List ℕ) → HasTallied l.engine l.heard seen → (x : ℕ) → x < l.number →
      get_or l.counts x none ≡ source_counts_of (plan_of l.engine) (placed seen) x;
}
