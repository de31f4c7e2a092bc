use Rattle.std.proofs.Common.{arith, refl}
use Rattle.source_events.specs.declared.event.What.TheVariants.{Packet as Said}
use Rattle.source_events.specs.declared.packet.Packet.TheVariants.{Itm}
use Rattle.recovering_machines.specs.Hearing.{read_event, takes_read}
use Rattle.recovery_listing.proofs.Noted.{event_given, smaller}
use Rattle.recovery_listing.proofs.noting.NotingReceiver.give_itm.Goals as goal

pub returns-clause-gets : goal.returns-clause-gets
returns-clause-gets g c =
    let old = c.args.self.now in
    let packet = c.args.packet in
    event_given (takes_read g.R.Receiver.gets) old (record old { receiver = c.give_itm.new.self }) c.args.outlet.now
    c.give_itm.new.to (read_event c.args.source c.args.at c.args.half (Itm packet)) (Said (Itm packet))
    refl refl refl refl c.give_itm.ensures.gets

pub returns-clause-room : goal.returns-clause-room
returns-clause-room g c = smaller _ _ _ _ c.give_itm.ensures.room (omega arith)
