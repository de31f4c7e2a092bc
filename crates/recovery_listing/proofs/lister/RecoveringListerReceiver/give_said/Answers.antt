use Rattle.std.proofs.Common.{refl}
use Rattle.source_events.specs.declared.event.What.TheVariants.{Packet as Said}
use Rattle.source_events.specs.declared.packet.Packet.TheVariants.{Stp}
use Rattle.recovering_machines.specs.Hearing.{as_event, read_event}
use Rattle.recovery_listing.proofs.Putting.{event_put}
use Rattle.recovery_listing.proofs.lister.RecoveringListerReceiver.give_said.Goals as goal

pub returns-clause-gets : goal.returns-clause-gets
returns-clause-gets c = λ item is.
    let old = c.args.self.now in
    let e = read_event c.args.source c.args.at c.args.half (Stp item) in
    let what = Said (Stp item) in
    event_put old
    (record { lister = c.give_said.new.self; guess_clocks = old.guess_clocks; is_faulty = old.is_faulty })
    c.args.outlet.now c.give_said.new.outlet e refl what refl refl
    (λ es h. c.pass.ensures es (as_event e what) refl h) refl (c.give_said.ensures.gets item is)
