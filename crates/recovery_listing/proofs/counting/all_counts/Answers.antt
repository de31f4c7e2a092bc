use Rattle.std.proofs.Common.{◌<◌, length, arith, rules}
use Rattle.trace_values.specs.Placed.{placed}
use Rattle.recovery_report.specs.Counts.{source_counts_of}
use Rattle.capture_actions.proofs.Parts.{counts_more}
use Rattle.recovery_listing.specs.Counting.{plan_of}
use Rattle.recovery_listing.proofs.counting.all_counts.Goals as goal

pub loop-number-preserved : goal.loop-number-preserved
loop-number-preserved c = record {
  size = search rules;
  counted = λ seen h.
      let counts = c.loop-number.counts in
      let n = c.loop-number.number in
      let size = c.loop-number.invariant.size in
      let more = c.loop-number-test.true in
      let within : n < length counts = omega arith in
      counts_more counts n c.counts_at.result (source_counts_of (plan_of c.args.engine.now) (placed seen)) within
      (c.loop-number.invariant.counted seen h) (c.counts_at.ensures seen h);
}
