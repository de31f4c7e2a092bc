use Rattle.std.proofs.Common.{arith}
use Rattle.std.proofs.lemmas.Bool.Decides.{nat_tests}
use Rattle.recovery_engine.proofs.Owning.{own_first, own_rest}
use Rattle.recovery_engine.proofs.slot.+take_own.Goals as goal

pub returns-then-eq-clause-own : goal.returns-then-eq-clause-own
returns-then-eq-clause-own g t c = λ e.
    own_first g.V.Receiver.gets g.V.Receiver.room c.args.id (g.R.Run.cells c.args.run.now) c.in-Some.slot.now
    c.in-Some.rest.now c.args.slots.now c.in-Some.ensures.cases.0
    (c.args.out.now, c.args.to.now) (c.take_run.new.out, c.take_run.new.to) c.take_run.new.self
    (let h = c.if-eq.true in let f = c.eq.ensures in grind (arith, nat_tests)) c.take_run.ensures

pub returns-clause-own : goal.returns-clause-own
returns-clause-own g t c = λ e.
    own_rest g.V.Receiver.gets g.V.Receiver.room c.args.id (g.R.Run.cells c.args.run.now) c.in-Some.slot.now
    c.in-Some.rest.now c.args.slots.now c.in-Some.ensures.cases.0
    (c.args.out.now, c.args.to.now) (c.take_own.new.out, c.take_own.new.to) c.take_own.new.slots
    (let h = c.if-eq.false in let f = c.eq.ensures in grind (arith, nat_tests)) (c.take_own.ensures.own e)
