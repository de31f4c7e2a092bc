use Rattle.std.proofs.Common.{arith, refl}
use Rattle.source_events.specs.declared.event.What.TheVariants.{Raw}
use Rattle.recovering_machines.specs.Hearing.{raw_event, takes_read}
use Rattle.recovery_listing.proofs.Noted.{event_given, smaller}
use Rattle.recovery_listing.proofs.noting.NotingReceiver.give_raw.Goals as goal

pub returns-clause-gets : goal.returns-clause-gets
returns-clause-gets g c =
    let old = c.args.self.now in
    event_given (takes_read g.R.Receiver.gets) old (record old { receiver = c.give_raw.new.self }) c.args.outlet.now
    c.give_raw.new.to (raw_event c.args.source c.args.at c.args.bytes.now) (Raw c.args.bytes.now)
    refl refl refl refl c.give_raw.ensures.gets

pub returns-clause-room : goal.returns-clause-room
returns-clause-room g c = smaller _ _ _ _ c.give_raw.ensures.room (omega arith)
