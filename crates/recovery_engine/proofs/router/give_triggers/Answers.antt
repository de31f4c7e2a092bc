use Rattle.std.proofs.Common.{◌∷◌, [], take, subst, arith}
use Rattle.recovery_engine.proofs.Triggers.{told_by, trigger, one_more}
use Rattle.recovery_engine.proofs.router.give_triggers.Goals as goal

pub loop-index-init : goal.loop-index-init
loop-index-init g c = record { given = g.met.V.Receiver.adds_up.none (c.args.out.now, c.args.to.now); space = omega arith }

pub give_trigger-requires : goal.give_trigger-requires
give_trigger-requires g c = record {
  room =
      (let a = c.loop-index.invariant.space in let b = c.requires.room in let n = c.len-index-end.ensures in
      let h = c.loop-index-test.true in omega (arith, a, b, h, n));
}

pub loop-index-preserved : goal.loop-index-preserved
loop-index-preserved g c =
    let i = c.loop-index.invariant in
    let x = c.args.id in
    let run = g.R.Run.cells c.args.run.now in
    let k = c.loop-index.index in
    let cell = c.cell-cell.result in
    record {
      given =
          subst (λ l. g.V.Receiver.gets (c.args.out.now, c.args.to.now) l
          (c.give_trigger.new.self, c.give_trigger.new.to))
          (one_more x run k cell (let n = c.len-index-end.ensures in let h = c.loop-index-test.true in
          omega (arith, n, h)) c.cell-cell.ensures)
          (g.met.V.Receiver.adds_up.more (c.args.out.now, c.args.to.now) (c.loop-index.out, c.loop-index.to)
          (c.give_trigger.new.self, c.give_trigger.new.to) (told_by x (take k run))
          (trigger x cell ∷ []) i.given c.give_trigger.ensures.gets);
      space = (let a = i.space in let h = c.give_trigger.ensures.room in omega (arith, a, h));
    }
