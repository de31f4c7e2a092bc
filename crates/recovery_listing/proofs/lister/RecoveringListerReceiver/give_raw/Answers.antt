use Rattle.std.proofs.Common.{refl}
use Rattle.source_events.specs.declared.event.What.TheVariants.{Raw}
use Rattle.recovering_machines.specs.Hearing.{as_event, raw_event}
use Rattle.recovery_listing.proofs.Putting.{event_put}
use Rattle.recovery_listing.proofs.lister.RecoveringListerReceiver.give_raw.Goals as goal

pub returns-clause-gets : goal.returns-clause-gets
returns-clause-gets c =
    let old = c.args.self.now in
    let e = raw_event c.args.source c.args.at c.args.bytes.now in
    let what = Raw c.args.bytes.now in
    event_put old
    (record { lister = c.give_raw.new.self; guess_clocks = old.guess_clocks; is_faulty = old.is_faulty })
    c.args.outlet.now c.give_raw.new.outlet e refl what refl refl
    (λ es h. c.pass.ensures es (as_event e what) refl h) refl c.give_raw.ensures.gets
