use Rattle.std.proofs.Common.{◌≡◌, ℕ, ◌+◌, ◌-◌, ◌≤◌, [], ◌∷◌, List, length, get_or, subst, sym, ◌∙◌, ap, arith}
use Rattle.trace_values.specs.declared.cell.Cell.{Cell}
use Rattle.recovering_machines.proofs.RunParts.{last_parts}
use Rattle.recovering_machines.specs.Run.{TakesRun, between}
use Rattle.recovering_machines.proofs.Runs.{between_as, takes_one}
use Rattle.recovering_machines.proofs.run.take_one.Goals as goal

pub returns : goal.returns
returns g c =
    let cells = g.R.Run.cells c.args.run.now in
    let from = c.args.from in
    let cell = c.cell-cell.result in
    let within : from + 1 ≤ length cells = (let r = c.requires.from in omega (arith, r)) in
    let is : cell ≡ get_or cells (from + 1 - 1) cell =
    c.cell-cell.ensures ∙ ap (λ (n : ℕ). get_or cells n cell) (let e : from ≡ from + 1 - 1 = omega arith in e) in
    let parts : between from (from + 1) cells ≡ cell ∷ [] =
    between_as from 1 cells ∙ last_parts cells from 1 cell (omega arith) within is in
    subst (λ (l : List Cell). TakesRun g.V.Receiver.gets g.V.Receiver.room c.args.id l c.args.source.now
    c.feed-step.new.self (c.args.out.now, c.args.to.now) (c.give_step.new.out, c.give_step.new.to)) (sym parts)
    (takes_one g.V.Receiver.gets g.V.Receiver.room g.met.V.Receiver.adds_up.none g.met.V.Receiver.adds_up.more c.args.id
    c.args.source.now c.feed-step.new.self (c.args.out.now, c.args.to.now) (c.give_step.new.out, c.give_step.new.to) cell
    c.feed-step.result c.feed-step.ensures.kind c.feed-step.ensures.reads c.feed-step.ensures.list
    c.feed-step.ensures.given c.feed-step.ensures.few c.give_step.ensures.received c.give_step.ensures.room)
