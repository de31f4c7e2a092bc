use Rattle.std.proofs.Common.{sym, ◌∙◌}
use Rattle.trace_clock.proofs.GlobalStamps.{high_lost, high_kept}
use Rattle.trace_clock.proofs.global.GlobalClock.first.Goals as goal

pub returns-then-wrap : goal.returns-then-wrap
returns-then-wrap c = λ stamps kept. record {
  low = c.low_after-self.ensures.list stamps c.args.wrap kept.low;
  high = sym (high_lost stamps c.args.len c.args.value c.args.wrap c.if-wrap.true);
}

pub returns-else-wrap : goal.returns-else-wrap
returns-else-wrap c = λ stamps kept. record {
  low = c.low_after-self.ensures.list stamps c.args.wrap kept.low;
  high = kept.high ∙ sym (high_kept stamps c.args.len c.args.value c.args.wrap c.if-wrap.false);
}
