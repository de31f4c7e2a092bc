use Rattle.recovery_listing.proofs.Putting.{notice_taken, other_taken}
use Rattle.recovery_listing.proofs.guess_clocks.GuessClocks.take_sure.Goals as goal

pub returns-then-is_lock-clause-taken : goal.returns-then-is_lock-clause-taken
returns-then-is_lock-clause-taken c = λ es e what same h.
    notice_taken (record { clocks = c.renew.new.self; kept = c.args.self.now.kept }) c.args.event.now es e what same
    c.is_lock.result c.is_lock.ensures c.if-is_lock.true (λ k. c.renew.ensures es (h k))

pub returns-else-is_lock-clause-taken : goal.returns-else-is_lock-clause-taken
returns-else-is_lock-clause-taken c = λ es e what same h.
    other_taken (record { clocks = c.remark.new.self; kept = c.args.self.now.kept }) c.args.event.now es e what same
    c.is_lock.result c.is_lock.ensures c.if-is_lock.false (λ k. c.remark.ensures.stand es (h k))
