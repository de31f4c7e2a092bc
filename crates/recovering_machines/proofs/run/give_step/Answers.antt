use Rattle.std.proofs.Common.{◌∷◌, [], Some, sym, subst}
use Rattle.source_events.specs.declared.event.Event.{Event}
use Rattle.source_events.specs.declared.event.What.TheVariants.{Locked, Packet as Said}
use Rattle.source_events.specs.declared.packet.Packet.{Packet}
use Rattle.source_events.specs.Merge.{told}
use Rattle.source_events.specs.Report.{lifted}
use Rattle.stretch_readings.specs.declared.heard.Heard.{Heard}
use Rattle.stretch_readings.specs.declared.heard.Heard.TheVariants.{Read}
use Rattle.stretch_readings.specs.Steps.{said_by}
use Rattle.recovering_machines.proofs.run.give_step.Goals as goal

pub returns-in-Locked-clause-received : goal.returns-in-Locked-clause-received
returns-in-Locked-clause-received g c =
    let gets = g.V.Receiver.gets in
    let a = c.event_at-in-Locked.result in
    let b = c.event_at-in-Locked-2.result in
    let both = g.met.V.Receiver.adds_up.more (c.args.out.now, c.args.to.now)
    (c.give-in-Locked.new.self, c.give-in-Locked.new.to) (c.give-in-Locked-2.new.self, c.give-in-Locked-2.new.to)
    (a ∷ []) (b ∷ []) c.give-in-Locked.ensures.gets c.give-in-Locked-2.ensures.gets in
    let first : Event (Heard Packet) = record {
      at = c.args.at;
      half = c.in-Locked.half;
      source =
          Some c.args.id;
      what = Locked c.in-Locked.skipped;
    } in
    let second : Event (Heard Packet) = record {
      at = c.args.at;
      half = c.in-Locked.half;
      source =
          Some c.args.id;
      what = Said (Read c.in-Locked.item);
    } in
    subst (λ s. gets (c.args.out.now, c.args.to.now) (told (Some c.args.id) (lifted (said_by c.args.at s)))
    (c.give-in-Locked-2.new.self, c.give-in-Locked-2.new.to)) (sym c.in-Locked.is)
    (subst (λ (x : Event (Heard Packet)). gets (c.args.out.now, c.args.to.now) (x ∷ (second ∷ []))
    (c.give-in-Locked-2.new.self, c.give-in-Locked-2.new.to))
    c.event_at-in-Locked.ensures
    (subst (λ (y : Event (Heard Packet)). gets (c.args.out.now, c.args.to.now) (a ∷ (y ∷ []))
    (c.give-in-Locked-2.new.self, c.give-in-Locked-2.new.to))
    c.event_at-in-Locked-2.ensures both))
