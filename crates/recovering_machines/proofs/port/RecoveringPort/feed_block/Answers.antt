use Rattle.std.proofs.Common.{◌+◌, ◌∙◌, ap, arith, refl, sym}
use Rattle.deformatter.specs.Growth.{fault_by}
use Rattle.deformatter.specs.declared.step.PortStep.TheVariants.{Locked, Fault as Faulty}
use Rattle.recovering_machines.proofs.Feeding as feeding
use Rattle.recovering_machines.proofs.Feeding.{goes_fault, unraised}
use Rattle.recovering_machines.proofs.port.RecoveringPort.feed_block.Goals as goal

pub returns-in-Fault-clause-list : goal.returns-in-Fault-clause-list
returns-in-Fault-clause-list c = λ r k.
    let p = c.args.self.now in
    let call = c.feed_block-taken in
    let e = call.new.self in
    let t = call.ensures in
    let front = feeding.front p e c.args.at c.args.piece.now call.result call.new.out.items t r k in
    let end = feeding.end p e c.args.at c.args.piece.now call.result call.new.out.items t r k in
    let all = feeding.stands_all p e c.args.at c.args.piece.now call.result call.new.out.items t r k in
    let sound = feeding.sound p e c.args.at c.args.piece.now call.result call.new.out.items t r k in
    feeding.falls_back p e c.args.at c.args.piece.now call.result call.new.out.items t r k _
    c.hunting_from-self.result c.passed_over.result c.left_over-self.result (ap fault_by c.in-Fault.is)
    (c.passed_over.ensures.value _ all) (c.left_over-self.ensures.value front end all sound)
    (c.hunting_from-self.ensures.list front end
    (feeding.end_is p e c.args.at c.args.piece.now call.result call.new.out.items t r k 0 _ refl) all
    sound) c.hunting_from-self.ensures.mode

pub returns-in-Fault-clause-fed : goal.returns-in-Fault-clause-fed
returns-in-Fault-clause-fed c = λ r k.
    feeding.answered c.args.self.now c.feed_block-taken.new.self c.args.at c.args.piece.now c.feed_block-taken.result
    c.feed_block-taken.new.out.items c.feed_block-taken.ensures r k (Faulty c.in-Fault.fault) (Faulty c.in-Fault.fault)
    c.in-Fault.is refl

pub returns-in-Fault-clause-cells : goal.returns-in-Fault-clause-cells
returns-in-Fault-clause-cells c = λ r k.
    feeding.cells_are c.args.self.now c.feed_block-taken.new.self c.args.at c.args.piece.now c.feed_block-taken.result
    c.feed_block-taken.new.out.items c.feed_block-taken.ensures r k

pub returns-in-Locked-clause-list : goal.returns-in-Locked-clause-list
returns-in-Locked-clause-list c = λ r k.
    feeding.goes_on c.args.self.now c.feed_block-taken.new.self c.args.at c.args.piece.now c.feed_block-taken.result
    c.feed_block-taken.new.out.items c.feed_block-taken.ensures r k (ap fault_by c.in-Locked.is)

pub returns-in-Locked-clause-fed : goal.returns-in-Locked-clause-fed
returns-in-Locked-clause-fed c = λ r k.
    let n = feeding.lock_is c.args.self.now c.feed_block-taken.new.self c.args.at c.args.piece.now
    c.feed_block-taken.result c.feed_block-taken.new.out.items c.feed_block-taken.ensures r k _ c.skipped.result
    c.in-Locked.is c.skipped.ensures.list in
    feeding.answered c.args.self.now c.feed_block-taken.new.self c.args.at c.args.piece.now c.feed_block-taken.result
    c.feed_block-taken.new.out.items c.feed_block-taken.ensures r k (Locked c.skipped.result) _
    (c.in-Locked.is ∙ ap Locked (sym n)) (ap (λ m. Locked (m + c.skipped.result)) k.count_is)

pub returns-in-Locked-clause-cells : goal.returns-in-Locked-clause-cells
returns-in-Locked-clause-cells c = λ r k.
    feeding.cells_are c.args.self.now c.feed_block-taken.new.self c.args.at c.args.piece.now c.feed_block-taken.result
    c.feed_block-taken.new.out.items c.feed_block-taken.ensures r k

pub returns-in_default : goal.returns-in_default
returns-in_default c =
    let p = c.args.self.now in
    let e = c.feed_block-taken.new.self in
    let t = c.feed_block-taken.ensures in
    let taken = c.feed_block-taken.result in
    let given = c.feed_block-taken.new.out.items in
    record {
      bytes = t.bytes;
      stops = t.stops;
      list = λ r k. feeding.goes_on p e c.args.at c.args.piece.now taken given t r k
          (goes_fault taken.step c.in_default.not-Fault);
      fed = λ r k. feeding.answered p e c.args.at c.args.piece.now taken given t r k taken.step taken.step refl
          (unraised r.now.count taken.step c.in_default.not-Locked);
      cells = λ r k. feeding.cells_are p e c.args.at c.args.piece.now taken given t r k;
      few = (let f = t.few in let b = t.bytes.0 in omega (arith, f, b));
    }
