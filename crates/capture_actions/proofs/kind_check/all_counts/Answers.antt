use Rattle.std.proofs.Common.{◌<◌, length, arith, rules}
use Rattle.capture_actions.specs.Names.{source_counts_of}
use Rattle.source_merge.specs.Engine as engine
use Rattle.capture_actions.proofs.Parts.{counts_more}
use Rattle.capture_actions.proofs.kind_check.all_counts.Goals as goal

pub loop-number-preserved : goal.loop-number-preserved
loop-number-preserved c = record {
  size = search rules;
  counted = λ u h.
      let counts = c.loop-number.counts in
      let n = c.loop-number.number in
      let size = c.loop-number.invariant.size in
      let more = c.loop-number-test.true in
      let within : n < length counts = omega arith in
      counts_more counts n c.counts_at.result (source_counts_of (engine.plan_of c.args.reading.now) u) within
      (c.loop-number.invariant.counted u h) (c.counts_at.ensures u h);
}
