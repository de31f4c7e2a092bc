use Rattle.std.proofs.Common.{◌≡◌, ℕ, ◌+◌, List, arith, subst, sym}
use Rattle.trace_values.specs.declared.cell.Cell.{Cell}
use Rattle.recovering_machines.specs.Mapped.{TakesMapped}
use Rattle.recovering_machines.specs.Run.{between}
use Rattle.recovering_machines.proofs.Mapping.{mapped_then}
use Rattle.recovering_machines.proofs.Runs.{between_more}
use Rattle.recovering_machines.proofs.mapped.MappedSource.take_others.Goals as goal

pub returns-clause-takes : goal.returns-clause-takes
returns-clause-takes g c =
    let cells = g.R.Run.cells c.args.run.now in
    let from = c.args.from in
    let within = c.take_within-done in
    let one = c.take_byte in
    let here : within.result ≡ from =
    (let a = within.ensures.within.0 in let b = c.if-done-from.false in omega (arith, a, b)) in
    subst (λ (l : List Cell). TakesMapped g.V.Receiver.gets g.V.Receiver.room c.args.id l c.args.self.now one.new.self
    (c.args.out.now, c.args.to.now) (one.new.out, one.new.to))
    (sym (between_more from from (from + 1) cells (omega arith) (omega arith) (let r = c.requires.from in omega (arith, r))))
    (mapped_then g.V.Receiver.gets g.V.Receiver.room g.met.V.Receiver.adds_up.none g.met.V.Receiver.adds_up.more c.args.id
    c.args.self.now within.new.self one.new.self (c.args.out.now, c.args.to.now) (within.new.out, within.new.to)
    (one.new.out, one.new.to) (between from from cells) (between from (from + 1) cells)
    (subst (λ (n : ℕ). TakesMapped g.V.Receiver.gets g.V.Receiver.room c.args.id (between from n cells) c.args.self.now
    within.new.self (c.args.out.now, c.args.to.now) (within.new.out, within.new.to)) here within.ensures.takes)
    one.ensures)
