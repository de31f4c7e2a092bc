use Rattle.std.proofs.Common.{◌∙◌, arith, rules}
use Rattle.std.specs.Prelude.{slice_index}
use Rattle.frame_grammar.proofs.Looks.{starts}
use Rattle.frame_grammar.proofs.Pairs.{pushed, more_cells, whole_plain, whole_named, after_plain, after_named, even_plain, even_named}
use Rattle.frame_grammar.proofs.frame.cells_of.Goals as goal

pub loop-pair-init : goal.loop-pair-init
loop-pair-init c = record { cells = c.requires.empty; here = starts c.args.frame.now c.args.id; room = search rules; run = omega arith }

pub loop-pair-preserved : goal.loop-pair-preserved
loop-pair-preserved c = record {
  cells = more_cells c.args.frame.now c.args.at.now c.args.id c.loop-pair.pair _ _ c.loop-pair.invariant.cells (c.take_pair-now.ensures.cells _ c.loop-pair.invariant.here);
  here = c.take_pair-now.ensures.id _ c.loop-pair.invariant.here;
  room = omega arith;
  run = omega arith;
}

pub returns-then-last-eq0-clause-cells : goal.returns-then-last-eq0-clause-cells
returns-then-last-eq0-clause-cells c =
    let e = c.if-last-eq0.true in
    whole_plain c.args.frame.now c.args.at.now c.args.id c.loop-pair.pair c.loop-pair.now.run _ c.loop-pair.now.id _ _ (omega arith) c.loop-pair.invariant.cells c.loop-pair.invariant.here
    (even_plain (slice_index c.args.frame.now 14) e) (let h = e in omega arith) (pushed _ _ _ _ c.push.ensures.items c.cell.ensures)

pub returns-then-last-eq0-clause-id : goal.returns-then-last-eq0-clause-id
returns-then-last-eq0-clause-id c =
    after_plain c.args.frame.now c.args.at.now c.args.id c.loop-pair.pair c.loop-pair.now.run _ (omega arith) c.loop-pair.invariant.here (even_plain (slice_index c.args.frame.now 14) c.if-last-eq0.true)

pub returns-else-last-eq0-clause-cells : goal.returns-else-last-eq0-clause-cells
returns-else-last-eq0-clause-cells c =
    whole_named c.args.frame.now c.args.at.now c.args.id c.loop-pair.pair _ (omega arith) c.loop-pair.invariant.cells (even_named (slice_index c.args.frame.now 14) c.if-last-eq0.false)

pub returns-else-last-eq0-clause-id : goal.returns-else-last-eq0-clause-id
returns-else-last-eq0-clause-id c =
    c.new.ensures ∙ after_named c.args.frame.now c.args.at.now c.args.id c.loop-pair.pair c.loop-pair.now.run c.loop-pair.now.id (omega arith) c.loop-pair.invariant.here
    (even_named (slice_index c.args.frame.now 14) c.if-last-eq0.false)
