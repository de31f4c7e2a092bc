use Rattle.std.proofs.Common.{refl}
use Rattle.source_events.specs.declared.event.What.TheVariants.{Packet as Said}
use Rattle.source_events.specs.declared.packet.Packet.TheVariants.{Itm}
use Rattle.recovering_machines.specs.Hearing.{as_event, read_event}
use Rattle.recovery_listing.proofs.Putting.{event_put}
use Rattle.recovery_listing.proofs.lister.RecoveringListerReceiver.give_itm.Goals as goal

pub returns-clause-gets : goal.returns-clause-gets
returns-clause-gets c =
    let old = c.args.self.now in
    let packet = c.args.packet in
    let e = read_event c.args.source c.args.at c.args.half (Itm packet) in
    let what = Said (Itm packet) in
    event_put old
    (record { lister = c.give_itm.new.self; guess_clocks = c.take_packet.new.self; is_faulty = old.is_faulty })
    c.args.outlet.now c.give_itm.new.outlet e refl what refl refl
    (λ es h. c.take_packet.ensures.taken es (as_event e what) refl refl h) c.take_packet.ensures.kept c.give_itm.ensures.gets
