use Rattle.std.proofs.Common.{sym, ◌∙◌}
use Rattle.trace_clock.proofs.GlobalStamps.{same_known, high_told}
use Rattle.trace_clock.proofs.global.GlobalClock.second.Goals as goal

pub returns : goal.returns
returns c = λ stamps kept. record {
  low = kept.low ∙ sym (same_known stamps c.args.value);
  high = sym (high_told stamps c.args.value);
}
