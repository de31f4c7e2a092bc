use Rattle.std.proofs.Common.{List, arith, subst, sym}
use Rattle.std.proofs.lemmas.List.{take_all}
use Rattle.trace_values.specs.declared.cell.Cell.{Cell}
use Rattle.recovering_machines.specs.Mapped.{TakesMapped}
use Rattle.recovering_machines.specs.Run.{between}
use Rattle.recovering_machines.proofs.Mapping.{mapped_none, mapped_then}
use Rattle.recovering_machines.proofs.Runs.{between_all, between_more}
use Rattle.recovering_machines.proofs.mapped.MappedSource.take_run.Goals as goal

pub loop-done-init : goal.loop-done-init
loop-done-init g c = record {
  few = omega arith;
  takes = mapped_none g.V.Receiver.gets g.V.Receiver.room g.met.V.Receiver.adds_up.none g.met.V.Receiver.adds_up.more c.args.id
      c.args.self.now (c.args.out.now, c.args.to.now);
}

pub take_part-done-requires : goal.take_part-done-requires
take_part-done-requires g c =
    let i = c.loop-done.invariant in
    let cells = g.R.Run.cells c.args.run.now in
    let few = i.few in
    let size = between_all 0 c.loop-done.done cells (omega arith) i.few in
    record {
      from = (let t = c.loop-done-test.true in let e = c.len.ensures in omega (arith, t, e));
      few = (let f = i.takes.few in let r = c.requires.few in omega (arith, size, f, r, few));
      room = (let f = i.takes.space in let r = c.requires.room in omega (arith, size, f, r, few));
    }

pub loop-done-preserved : goal.loop-done-preserved
loop-done-preserved g c =
    let i = c.loop-done.invariant in
    let cells = g.R.Run.cells c.args.run.now in
    let done = c.loop-done.done in
    let one = c.take_part-done.ensures in
    let next = c.take_part-done.result in
    record {
      few = one.within.1;
      takes =
          subst (λ (l : List Cell). TakesMapped g.V.Receiver.gets g.V.Receiver.room c.args.id l c.args.self.now
          c.take_part-done.new.self (c.args.out.now, c.args.to.now)
          (c.take_part-done.new.out, c.take_part-done.new.to))
          (sym (between_more 0 done next cells (omega arith) (let a = one.within.0 in omega (arith, a)) one.within.1))
          (mapped_then g.V.Receiver.gets g.V.Receiver.room g.met.V.Receiver.adds_up.none g.met.V.Receiver.adds_up.more c.args.id
          c.args.self.now c.loop-done.self c.take_part-done.new.self (c.args.out.now, c.args.to.now)
          (c.loop-done.out, c.loop-done.to) (c.take_part-done.new.out, c.take_part-done.new.to)
          (between 0 done cells) (between done next cells) i.takes one.takes);
    }

pub returns : goal.returns
returns g c =
    let i = c.loop-done.invariant in
    let cells = g.R.Run.cells c.args.run.now in
    subst (λ (l : List Cell). TakesMapped g.V.Receiver.gets g.V.Receiver.room c.args.id l c.args.self.now
    c.loop-done.self (c.args.out.now, c.args.to.now) (c.loop-done.out, c.loop-done.to))
    (take_all c.loop-done.done cells (let t = c.loop-done-test.false in let e = c.len.ensures in omega (arith, t, e)))
    i.takes
