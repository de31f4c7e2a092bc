use Rattle.std.proofs.Common.{refl}
use Rattle.recovery_listing.specs.Lister as lister
use Rattle.recovery_listing.specs.Show.{gets}
use Rattle.recovery_listing.proofs.Taken.{takes_on}
use Rattle.recovery_listing.proofs.show.RecoveringListerAccount.take.Goals as goal

pub returns-clause-on : goal.returns-clause-on
returns-clause-on c =
    takes_on lister.gets lister.room gets c.next-at.result c.args.piece.now c.take.result c.args.engine.now
    c.take.new.self (c.args.self.now, c.args.outlet.now) (c.take.new.out, c.take.new.to)
    (c.args.self.now, record { text = c.args.outlet.now; notes = c.args._notes.now })
    (c.take.new.out, record { text = c.take.new.to; notes = c.args._notes.now }) c.next-at.ensures.next
    c.take.ensures
    (λ es h. record { listed = h; silent = refl })
