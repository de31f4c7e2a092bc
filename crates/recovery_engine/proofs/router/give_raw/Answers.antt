use Rattle.std.proofs.Common.{Some, sym, ◌∙◌, ap, subst, List, [], ◌∷◌, ℕ, ◌-◌, get_or, take}
use Rattle.trace_values.specs.declared.cell.Cell.{Cell}
use Rattle.trace_values.specs.Placed.{Place}
use Rattle.source_events.specs.declared.event.Event.{Event}
use Rattle.source_events.specs.declared.event.What.{What}
use Rattle.source_events.specs.declared.event.What.TheVariants.{Raw}
use Rattle.source_events.specs.declared.packet.Packet.{Packet}
use Rattle.source_events.specs.Merge.{told}
use Rattle.source_events.specs.Report.{raw_events}
use Rattle.source_events.specs.Runs.{last_at}
use Rattle.source_events.proofs.Raws.{raw_is, last_is}
use Rattle.stretch_readings.specs.declared.heard.Heard.{Heard}
use Rattle.recovery_engine.proofs.router.give_raw.Goals as goal

abbrev told_by : ℕ → ℕ → List Cell → List (Event (Heard Packet))
told_by x n run = told (Some x) (raw_events n run)

pub returns-then-number-eq-NULL-clause-given : goal.returns-then-number-eq-NULL-clause-given
returns-then-number-eq-NULL-clause-given g c =
    let x = c.args.id in
    subst (λ n. g.V.Receiver.gets (c.args.out.now, c.args.to.now) (told_by x n (g.R.Run.cells c.args.run.now))
    (c.args.out.now, c.args.to.now))
    (sym (sym c.number-number.ensures.value ∙ c.if-number-eq-NULL.true))
    (g.met.V.Receiver.adds_up.none (c.args.out.now, c.args.to.now))

pub returns-then-number-eq-TRIGGER-clause-given : goal.returns-then-number-eq-TRIGGER-clause-given
returns-then-number-eq-TRIGGER-clause-given g c =
    let x = c.args.id in
    subst (λ n. g.V.Receiver.gets (c.args.out.now, c.args.to.now) (told_by x n (g.R.Run.cells c.args.run.now))
    (c.give_triggers.new.out, c.give_triggers.new.to))
    (sym (sym c.number-number.ensures.value ∙ c.if-number-eq-TRIGGER.true))
    c.give_triggers.ensures.given

pub returns-clause-given : goal.returns-clause-given
returns-clause-given g c =
    let run = g.R.Run.cells c.args.run.now in
    let x = c.args.id in
    let bytes = take c.len-count.result c.ahead.result.now in
    let last = c.cell-at.result in
    subst (λ (l : List (What (Heard Packet) × Place)). g.V.Receiver.gets (c.args.out.now, c.args.to.now)
    (told (Some x) l) (c.give_raw.new.self, c.give_raw.new.to))
    (ap (λ (n : ℕ). (Raw bytes, record { at = n; half = 0 }) ∷ [])
    (ap (λ (d : Cell). d.at)
    (c.cell-at.ensures ∙ ap (λ (n : ℕ). get_or run (n - 1) last) c.len-count.ensures)
    ∙ last_is run last c.requires.some)
    ∙ ap (λ (b : List ℕ). (Raw b, record { at = last_at run; half = 0 }) ∷ [])
    (ap (λ (n : ℕ). take n c.ahead.result.now) c.len-count.ensures ∙ c.ahead.ensures.bytes)
    ∙ sym (raw_is (Heard Packet) x run (λ e. c.if-number-eq-NULL.false (c.number-number.ensures.value ∙ e))
    (λ e. c.if-number-eq-TRIGGER.false (c.number-number.ensures.value ∙ e))))
    c.give_raw.ensures.gets
