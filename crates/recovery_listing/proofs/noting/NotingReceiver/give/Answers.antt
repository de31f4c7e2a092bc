use Rattle.std.proofs.Common.{◌∙◌, ◌∷◌, [], refl, sym, subst, arith}
use Rattle.source_events.specs.declared.event.Event.{Event}
use Rattle.source_events.specs.declared.packet.Packet.{Packet}
use Rattle.stretch_readings.specs.declared.heard.Heard.{Heard}
use Rattle.recovering_machines.specs.Hearing.{takes_read}
use Rattle.recovery_listing.proofs.Noted.{event_given, smaller}
use Rattle.recovery_listing.proofs.noting.NotingReceiver.give.Goals as goal

pub returns-in-Ok-clause-gets : goal.returns-in-Ok-clause-gets
returns-in-Ok-clause-gets g c =
    let old = c.args.self.now in
    event_given (takes_read g.R.Receiver.gets) old (record old { receiver = c.give.new.self }) c.args.outlet.now
    c.give.new.to c.args.event c.in-Ok.what (sym c.strictly.ensures ∙ c.in-Ok.is) refl refl refl
    (subst (λ (e : Event (Heard Packet)). g.R.Receiver.gets (old.receiver, c.args.outlet.now) (e ∷ [])
    (c.give.new.self, c.give.new.to)) c.as_read.ensures.event c.give.ensures.gets)

pub returns-in-Ok-clause-room : goal.returns-in-Ok-clause-room
returns-in-Ok-clause-room g c = smaller _ _ _ _ c.give.ensures.room (omega arith)
