use Rattle.std.proofs.Common.{refl, subst}
use Rattle.recovery_engine.specs.Front.{TakesFront}
use Rattle.recovery_engine.specs.Heard as heard
use Rattle.recovery_engine.specs.declared.engine.Recovery.{Recovery}
use Rattle.recovery_engine.proofs.Gathering.{unread}
use Rattle.recovery_listing.specs.Account.{Pages}
use Rattle.recovery_listing.specs.Check.{gets}
use Rattle.recovery_listing.proofs.Taken.{takes_on}
use Rattle.recovery_listing.proofs.check.TallyAccount.take.Goals as goal

pub returns-in-Some-clause-on : goal.returns-in-Some-clause-on
returns-in-Some-clause-on c =
    let old = c.args.self.now in
    let pages : Pages = record { text = c.args._outlet.now; notes = c.args._notes.now } in
    takes_on unread (λ s. 0) gets c.next-at.result c.args.piece.now c.in-Some.bytes c.args.engine.now
    c.count_frame.new.self tt tt (old, pages) (_, pages) c.next-at.ensures.next c.in-Some.ensures.counts (λ es h. record { heard = h.0 old.heard; silent = refl })

pub returns-clause-on : goal.returns-clause-on
returns-clause-on c =
    let old = c.args.self.now in
    let pages : Pages = record { text = c.args._outlet.now; notes = c.args._notes.now } in
    takes_on heard.gets heard.room gets c.next-at.result c.args.piece.now c.take-taken.result c.args.engine.now
    c.take-taken.new.self (old.heard, tt) (c.take-taken.new.out, tt) (old, pages) (_, pages) c.next-at.ensures.next
    (subst (λ (e : Recovery). TakesFront heard.gets heard.room c.next-at.result c.args.piece.now c.take-taken.result
    (e, (old.heard, tt)) (c.take-taken.new.self, (c.take-taken.new.out, tt))) (c.in_default.ensures.none refl)
    c.take-taken.ensures)
    (λ es h. record { heard = h; silent = refl })
