use Rattle.std.proofs.Common.{List, arith, subst, sym}
use Rattle.trace_values.specs.declared.cell.Cell.{Cell}
use Rattle.recovering_machines.specs.Mapped.{TakesMapped}
use Rattle.recovering_machines.specs.Run.{between}
use Rattle.recovering_machines.proofs.Mapping.{mapped_then}
use Rattle.recovering_machines.proofs.Runs.{between_all, between_more}
use Rattle.recovering_machines.proofs.mapped.MappedSource.take_part.Goals as goal

pub take_others-requires : goal.take_others-requires
take_others-requires g c =
    let found = c.take_found-found.ensures in
    let a = found.within.0 in
    let b = found.within.1 in
    let size = between_all c.args.from c.take_found-found.result (g.R.Run.cells c.args.run.now) a b in
    record {
      from = (let t = c.if-found-len.true in let e = c.len.ensures in omega (arith, t, e));
      fits = (let t = c.if-found-len.true in let e = c.len.type_inv in omega (arith, t, e));
      few = (let f = found.takes.few in let r = c.requires.few in omega (arith, size, f, r, a, b));
      room = (let f = found.takes.space in let r = c.requires.room in omega (arith, size, f, r, a, b));
    }

pub returns-then-found-len-clause-takes : goal.returns-then-found-len-clause-takes
returns-then-found-len-clause-takes g c =
    let cells = g.R.Run.cells c.args.run.now in
    let found = c.take_found-found in
    let more = c.take_others in
    subst (λ (l : List Cell). TakesMapped g.V.Receiver.gets g.V.Receiver.room c.args.id l c.args.self.now more.new.self
    (c.args.out.now, c.args.to.now) (more.new.out, more.new.to))
    (sym (between_more c.args.from found.result more.result cells found.ensures.within.0
    (let a = more.ensures.within.0 in omega (arith, a)) more.ensures.within.1))
    (mapped_then g.V.Receiver.gets g.V.Receiver.room g.met.V.Receiver.adds_up.none g.met.V.Receiver.adds_up.more c.args.id
    c.args.self.now found.new.self more.new.self (c.args.out.now, c.args.to.now) (found.new.out, found.new.to)
    (more.new.out, more.new.to) (between c.args.from found.result cells) (between found.result more.result cells)
    found.ensures.takes more.ensures.takes)
