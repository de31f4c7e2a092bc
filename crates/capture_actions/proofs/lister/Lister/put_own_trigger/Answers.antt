use Rattle.std.proofs.Common.{◌∙◌, ◌++◌, Bool, true, false, refl, sym, ap, append-nil}
use Rattle.recovering_machines.specs.Events.{trigger_event}
use Rattle.capture_actions.specs.Names.{Event, Packet, event_line, None as NoRemark}
use Rattle.capture_actions.proofs.Wanted.{put_from_parts}
use Rattle.capture_actions.proofs.lister.Lister.put_own_trigger.Goals as goal

pub returns-then-wants-clause-gets : goal.returns-then-wants-clause-gets
returns-then-wants-clause-gets c =
    let e = trigger_event c.args.source c.args.at c.args.byte in
    let own = c.requires.own in
    put_from_parts c.args.self.now _ c.args.outlet.now c.print.new.outlet e true own.0 refl
    (sym c.if-wants.true ∙ c.wants.ensures) refl refl (λ before h. c.pass.ensures before e refl h)
    (λ before h. c.print.ensures.line
    ∙ ap (λ (x : Event Packet). c.args.outlet.now ++ event_line false x NoRemark) c.trigger_of-event.ensures
    ∙ ap (λ (s : Bool). c.args.outlet.now ++ event_line s e NoRemark) (sym own.1))

pub returns-else-wants-clause-gets : goal.returns-else-wants-clause-gets
returns-else-wants-clause-gets c =
    let e = trigger_event c.args.source c.args.at c.args.byte in
    put_from_parts c.args.self.now _ c.args.outlet.now c.args.outlet.now e false c.requires.own.0 refl
    (sym c.if-wants.false ∙ c.wants.ensures) refl refl (λ before h. c.pass.ensures before e refl h)
    (λ before h. sym (append-nil c.args.outlet.now))
