use Rattle.std.proofs.Common.{◌+◌, ◌*◌, length, subst}
use Rattle.frame_writer.specs.Sure.{of_one}
use Rattle.port_formatter.specs.Formatter.{HasRoom}
use Rattle.port_formatter.specs.declared.formatter.Formatter.{Formatter}
use Rattle.port_formatter.proofs.StraightWays.{puts_straight}
use Rattle.port_formatter.proofs.formatter.Formatter.put_all.Goals as goal

pub returns-in-Straight-clause-put : goal.returns-in-Straight-clause-put
returns-in-Straight-clause-put c =
    puts_straight c.args.self.now c.in-Straight.to _ (of_one c.args.id c.args.bytes.now) c.in-Straight.is
    c.put_all.ensures.put

pub returns-in-Funnelled-clause-room : goal.returns-in-Funnelled-clause-room
returns-in-Funnelled-clause-room c = λ more h.
    c.put_all-in-Funnelled.ensures.room more
    (subst (λ (f : Formatter). HasRoom f (2 * length c.args.bytes.now + more)) c.in-Funnelled.is h)
