use Rattle.std.proofs.Common.{◌∙◌, List, refl, subst, sym}
use Rattle.trace_values.specs.declared.cell.Cell.{Cell}
use Rattle.recovering_machines.specs.Mapped.{TakesMapped}
use Rattle.recovering_machines.specs.Run.{between}
use Rattle.recovering_machines.specs.declared.mapped.MappedSource.{MappedSource}
use Rattle.recovering_machines.proofs.Mapping.{mapped_none, mapped_packets}
use Rattle.recovering_machines.proofs.Runs.{between_none}
use Rattle.recovering_machines.proofs.mapped.MappedSource.take_within.Goals as goal

pub returns-then-is_guessing-clause-takes : goal.returns-then-is_guessing-clause-takes
returns-then-is_guessing-clause-takes g c =
    let self = c.args.self.now in
    subst (λ (l : List Cell). TakesMapped g.V.Receiver.gets g.V.Receiver.room c.args.id l self self
    (c.args.out.now, c.args.to.now) (c.args.out.now, c.args.to.now))
    (sym (between_none c.args.from (g.R.Run.cells c.args.run.now)))
    (mapped_none g.V.Receiver.gets g.V.Receiver.room g.met.V.Receiver.adds_up.none g.met.V.Receiver.adds_up.more c.args.id self
    (c.args.out.now, c.args.to.now))

pub returns-clause-takes : goal.returns-clause-takes
returns-clause-takes g c =
    let old = c.args.self.now in
    let found = c.take_within in
    let new : MappedSource = record { sure = found.new.source; guess = old.guess; guesses = old.guesses } in
    mapped_packets g.V.Receiver.gets g.V.Receiver.room g.met.V.Receiver.adds_up.none g.met.V.Receiver.adds_up.more c.args.id old new
    (c.args.out.now, c.args.to.now) (found.new.out, found.new.to)
    (between c.args.from found.result (g.R.Run.cells c.args.run.now)) refl refl
    (sym c.is_guessing.ensures ∙ c.if-is_guessing.false) found.ensures.takes found.ensures.goes
