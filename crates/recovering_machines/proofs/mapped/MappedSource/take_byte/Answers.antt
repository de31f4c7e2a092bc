use Rattle.std.proofs.Common.{◌≡◌, ◌+◌, ◌-◌, ◌≤◌, ◌∷◌, [], List, ℕ, ◌∙◌, ap, arith, get_or, length, refl, subst, sym}
use Rattle.trace_values.specs.declared.cell.Cell.{Cell}
use Rattle.recovering_machines.proofs.RunParts.{last_parts}
use Rattle.recovering_machines.specs.Mapped.{TakesMapped}
use Rattle.recovering_machines.specs.Run.{between}
use Rattle.recovering_machines.specs.declared.mapped.MappedSource.{MappedSource}
use Rattle.recovering_machines.specs.Source.{with_byte}
use Rattle.recovering_machines.proofs.Guessing.{same_source}
use Rattle.recovering_machines.proofs.Mapping.{mapped_one, mapped_sure}
use Rattle.recovering_machines.proofs.Runs.{between_as}
use Rattle.recovering_machines.proofs.mapped.MappedSource.take_byte.Goals as goal

pub returns : goal.returns
returns g c =
    let cells = g.R.Run.cells c.args.run.now in
    let index = c.args.index in
    let cell = c.cell-cell.result in
    let old = c.args.self.now in
    let fed = c.feed-step.ensures in
    let sure = c.feed-step.new.self in
    let guess = c.follow-answer.new.self in
    let new : MappedSource = record { sure = sure; guess = guess; guesses = old.guesses } in
    let within : index + 1 ≤ length cells = (let r = c.requires.index in omega (arith, r)) in
    let is : cell ≡ get_or cells (index + 1 - 1) cell =
    c.cell-cell.ensures ∙ ap (λ (n : ℕ). get_or cells n cell) (let e : index ≡ index + 1 - 1 = omega arith in e) in
    let parts : between index (index + 1) cells ≡ cell ∷ [] =
    between_as index 1 cells ∙ last_parts cells index 1 cell (omega arith) within is in
    subst (λ (l : List Cell). TakesMapped g.V.Receiver.gets g.V.Receiver.room c.args.id l old new
    (c.args.out.now, c.args.to.now) (c.give_answer.new.out, c.give_answer.new.to)) (sym parts)
    (mapped_one g.V.Receiver.gets g.V.Receiver.room g.met.V.Receiver.adds_up.none g.met.V.Receiver.adds_up.more c.args.id old new
    (c.args.out.now, c.args.to.now) (c.give_answer.new.out, c.give_answer.new.to) cell c.follow-answer.result
    c.if-not-self.false refl fed.kind fed.reads fed.list
    (λ r start l k f. same_source guess old.sure sure (cell.at + 1) (with_byte old.sure r cell.at cell.byte) fed.kind
    fed.reads (c.follow-answer.ensures.follows old.sure r start l k (fed.step r k) f))
    (λ r start l k f. c.follow-answer.ensures.said old.sure r start l k (fed.step r k) f)
    (let s = fed.few in let n = c.follow-answer.ensures.few in omega (arith, s, n)) c.give_answer.ensures.received
    c.give_answer.ensures.room)

pub returns-then-not-self : goal.returns-then-not-self
returns-then-not-self g c =
    let old = c.args.self.now in
    let new : MappedSource = record { sure = c.take_one.new.source; guess = old.guess; guesses = old.guesses } in
    mapped_sure g.V.Receiver.gets g.V.Receiver.room g.met.V.Receiver.adds_up.none g.met.V.Receiver.adds_up.more c.args.id old new
    (c.args.out.now, c.args.to.now) (c.take_one.new.out, c.take_one.new.to)
    (between c.args.index (c.args.index + 1) (g.R.Run.cells c.args.run.now)) c.if-not-self.true refl refl
    c.take_one.ensures
