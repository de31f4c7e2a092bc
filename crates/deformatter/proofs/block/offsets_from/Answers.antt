use Rattle.std.proofs.Common.{◌≡◌, ℕ, take, arith, sym, ◌∙◌, ap}
use Rattle.std.specs.List.{range_with_len}
use Rattle.std.proofs.lemmas.List.{take_all}
use Rattle.std.proofs.lemmas.Grind.{common_steps}
use Rattle.deformatter.proofs.Blocks.{range_more}
use Rattle.deformatter.proofs.block.offsets_from.Goals as goal

pub loop-index-preserved : goal.loop-index-preserved
loop-index-preserved c = record {
  size = grind (arith, common_steps);
  front = (let e = range_more c.args.at c.loop-index.index in let f = c.loop-index.invariant.front in grind (arith, common_steps));
}

pub returns : goal.returns
returns c = (let f = c.loop-index.invariant.front in let s = c.loop-index.invariant.size in let i : c.loop-index.index ≡ 16 = omega arith in
    sym (take_all 16 c.loop-index.offsets (omega arith)) ∙ ap (λ (n : ℕ). take n c.loop-index.offsets) (sym i) ∙ f ∙ ap (range_with_len c.args.at) i)
