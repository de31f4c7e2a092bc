use Rattle.std.proofs.Common.{refl}
use Rattle.capture_actions.specs.KindLines.{line_of, parts_by}
use Rattle.recovery_listing.specs.Account.{Pages}
use Rattle.recovery_listing.specs.HeardKinds as counts
use Rattle.recovery_listing.specs.KindTally.{gets, last_of}
use Rattle.recovery_listing.proofs.Paid.{still_paid}
use Rattle.recovery_listing.proofs.Taken.{takes_on}
use Rattle.recovery_listing.proofs.kinds.KindTallyAccount.take.Goals as goal

pub returns-clause-on : goal.returns-clause-on
returns-clause-on c =
    let old = c.args.self.now in
    let pages : Pages = record { text = c.args._outlet.now; notes = c.args._notes.now } in
    takes_on counts.gets counts.room gets c.next-at.result c.args.piece.now c.take-taken.result c.args.engine.now
    c.take-taken.new.self (old.counts, tt) (c.take-taken.new.out, tt) (old, pages) (_, pages) c.next-at.ensures.next
    c.take-taken.ensures
    (λ es h. record { same = refl; counts = h; silent = refl })

pub returns-clause-paid : goal.returns-clause-paid
returns-clause-paid c =
    let old = c.args.self.now in
    still_paid (parts_by (line_of old.plan old.counts.kinds old.lines) (last_of old.tails) old.lines.left)
    (parts_by (line_of old.plan c.take-taken.new.out.kinds old.lines) (last_of old.tails) old.lines.left)
    old.lines.left c.requires.paid
