use Rattle.std.proofs.Common.{◌∙◌, ◌++◌, Bool, true, false, refl, sym, ap, append-nil}
use Rattle.trace_text.specs.LineText.{stp_event}
use Rattle.capture_actions.specs.Names.{event_line, None as NoRemark}
use Rattle.capture_actions.proofs.Wanted.{put_from_parts}
use Rattle.capture_actions.proofs.lister.Lister.put_said.Goals as goal

pub returns-then-wants-clause-gets : goal.returns-then-wants-clause-gets
returns-then-wants-clause-gets c = λ item said.
    let e = stp_event c.args.at c.args.half c.args.source item in
    let own = c.requires.own in
    put_from_parts c.args.self.now _ c.args.outlet.now c.put_said_line.new.outlet e true own.0 refl
    (sym c.if-wants.true ∙ c.wants.ensures) refl refl (λ before h. c.pass.ensures before e refl h)
    (λ before h. c.put_said_line.ensures.line item said
    ∙ ap (λ (s : Bool). c.args.outlet.now ++ event_line s e NoRemark) (sym own.1))

pub returns-else-wants-clause-gets : goal.returns-else-wants-clause-gets
returns-else-wants-clause-gets c = λ item said.
    let e = stp_event c.args.at c.args.half c.args.source item in
    put_from_parts c.args.self.now _ c.args.outlet.now c.args.outlet.now e false c.requires.own.0 refl
    (sym c.if-wants.false ∙ c.wants.ensures) refl refl (λ before h. c.pass.ensures before e refl h)
    (λ before h. sym (append-nil c.args.outlet.now))
