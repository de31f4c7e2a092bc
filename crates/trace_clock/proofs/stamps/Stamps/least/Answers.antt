use Rattle.std.proofs.Common.{false, sym, subst, arith}
use Rattle.trace_clock.specs.LastWord.{IsLeast}
use Rattle.trace_clock.proofs.LastWords.{gray_least}
use Rattle.trace_clock.proofs.stamps.Stamps.least.Goals as goal

pub returns-then-self : goal.returns-then-self
returns-then-self c = λ stamps kept.
    subst (λ gray. IsLeast gray stamps c.args.time c.least_stamp.result.0 c.least_stamp.result.1) (sym c.if-self.true)
    (gray_least stamps c.args.time c.least_stamp.result.0 c.least_stamp.result.1 (omega arith)
    (subst (λ target. IsLeast false stamps target c.least_stamp.result.0 c.least_stamp.result.1) c.to_gray.ensures (c.least_stamp.ensures stamps kept.last)))
