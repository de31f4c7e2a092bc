use Rattle.std.proofs.Common.{◌+◌, subst}
use Rattle.port_formatter.specs.Formatter.{HasRoom}
use Rattle.port_formatter.specs.declared.formatter.Formatter.{Formatter}
use Rattle.port_formatter.proofs.StraightWays.{ends_straight}
use Rattle.port_formatter.proofs.formatter.Formatter.flush.Goals as goal

pub returns-in-Straight-clause-ends : goal.returns-in-Straight-clause-ends
returns-in-Straight-clause-ends c =
    ends_straight c.args.self.now c.in-Straight.to _ c.in-Straight.is c.flush.ensures.ends

pub returns-in-Funnelled-clause-room : goal.returns-in-Funnelled-clause-room
returns-in-Funnelled-clause-room c = λ more h.
    c.flush-in-Funnelled.ensures.room more (subst (λ (f : Formatter). HasRoom f (7 + more)) c.in-Funnelled.is h)
