use Rattle.std.proofs.Common.{arith}
use Rattle.trace_values.specs.Placed.{placed}
use Rattle.recovery_report.specs.Counts.{source_counts_of}
use Rattle.capture_actions.proofs.Counting.{no_lines, lines_more}
use Rattle.recovery_listing.specs.Counting.{plan_of}
use Rattle.recovery_listing.proofs.counting.put_sources.Goals as goal

pub loop-number-init : goal.loop-number-init
loop-number-init c = record {
  text = λ seen h. no_lines (source_counts_of (plan_of c.args.engine.now) (placed seen)) c.args.outlet.now;
  bound = omega arith;
}

pub loop-number-preserved : goal.loop-number-preserved
loop-number-preserved c = record {
  text = λ seen h.
      lines_more (source_counts_of (plan_of c.args.engine.now) (placed seen)) c.loop-number.number c.args.outlet.now
      c.loop-number.outlet c.put_source.new.outlet
      (c.loop-number.invariant.text seen h) (c.put_source.ensures.text seen h);
  bound = omega (arith, c.put_source.ensures.bound, c.loop-number.invariant.bound);
}
