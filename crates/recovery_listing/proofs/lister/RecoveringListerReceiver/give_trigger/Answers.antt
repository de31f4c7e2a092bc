use Rattle.std.proofs.Common.{refl}
use Rattle.source_events.specs.declared.event.What.TheVariants.{Trigger}
use Rattle.recovering_machines.specs.Hearing.{as_event, trigger_event}
use Rattle.recovery_listing.proofs.Putting.{event_put}
use Rattle.recovery_listing.proofs.lister.RecoveringListerReceiver.give_trigger.Goals as goal

pub returns-clause-gets : goal.returns-clause-gets
returns-clause-gets c =
    let old = c.args.self.now in
    let e = trigger_event c.args.source c.args.at c.args.byte in
    let what = Trigger c.args.byte in
    event_put old
    (record { lister = c.give_trigger.new.self; guess_clocks = old.guess_clocks; is_faulty = old.is_faulty })
    c.args.outlet.now c.give_trigger.new.outlet e refl what refl refl
    (λ es h. c.pass.ensures es (as_event e what) refl h) refl c.give_trigger.ensures.gets
