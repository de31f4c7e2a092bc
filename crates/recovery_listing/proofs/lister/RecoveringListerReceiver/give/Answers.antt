use Rattle.std.proofs.Common.{◌∙◌, refl, sym, true}
use Rattle.recovery_listing.proofs.Putting.{event_put, fault_put, guess_put, misread_put}
use Rattle.recovery_listing.proofs.lister.RecoveringListerReceiver.give.Goals as goal

pub returns-then-guess-clause-gets : goal.returns-then-guess-clause-gets
returns-then-guess-clause-gets c =
    let old = c.args.self.now in
    guess_put old
    (record {
      lister = c.put_guess.new.self;
      guess_clocks = record { clocks = c.put_guess.new.clocks; kept = old.guess_clocks.kept };
      is_faulty = old.is_faulty;
    })
    c.args.outlet.now c.put_guess.new.outlet c.args.event (sym c.is_guess-guess.ensures ∙ c.if-guess.true)
    c.put_guess.ensures.plan c.put_guess.ensures.filter c.put_guess.ensures.own refl c.in-Ok.what
    (sym c.strictly.ensures ∙ c.in-Ok.is) refl c.put_guess.ensures.clocks c.put_guess.ensures.line

pub returns-else-guess-clause-gets : goal.returns-else-guess-clause-gets
returns-else-guess-clause-gets c =
    let old = c.args.self.now in
    event_put old
    (record { lister = c.put_seldom.new.self; guess_clocks = c.take_sure.new.self; is_faulty = old.is_faulty })
    c.args.outlet.now c.put_seldom.new.outlet c.args.event (sym c.is_guess-guess.ensures ∙ c.if-guess.false) c.in-Ok.what
    (sym c.strictly.ensures ∙ c.in-Ok.is) refl (λ es h. c.take_sure.ensures.taken es c.args.event c.in-Ok.what refl h)
    c.take_sure.ensures.kept
    c.put_seldom.ensures.gets

pub returns-then-guess-2-clause-gets : goal.returns-then-guess-2-clause-gets
returns-then-guess-2-clause-gets c =
    let old = c.args.self.now in
    misread_put old old c.args.outlet.now c.put_misread.new.outlet c.args.event
    (sym c.is_guess-guess.ensures ∙ c.if-guess-2.true) refl refl refl refl c.in-Err.reason
    (sym c.strictly.ensures ∙ c.in-Err.is) refl c.put_misread.ensures.line

pub returns-else-guess-2-clause-gets : goal.returns-else-guess-2-clause-gets
returns-else-guess-2-clause-gets c =
    let old = c.args.self.now in
    fault_put old (record { lister = c.put_fault.new.self; guess_clocks = old.guess_clocks; is_faulty = true })
    c.args.outlet.now c.put_fault.new.outlet c.args.event (sym c.is_guess-guess.ensures ∙ c.if-guess-2.false)
    c.in-Err.reason (sym c.strictly.ensures ∙ c.in-Err.is) refl refl c.put_fault.ensures.plan
    c.put_fault.ensures.filter c.put_fault.ensures.clocks c.put_fault.ensures.line
