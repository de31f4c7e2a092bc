use Rattle.std.proofs.Common.{arith, false}
use Rattle.std.proofs.lemmas.List.{take_more}
use Rattle.frame_writer.proofs.Bytes.{spread_more}
use Rattle.frame_writer.proofs.frame.append_pairs.Goals as goal

pub loop-pair-preserved : goal.loop-pair-preserved
loop-pair-preserved c = record {
  items = spread_more c.args.halves _ _ _ c.args.out.now.items _ _ _ _ (take_more c.args.pairs.now c.loop-pair.pair-index (record { even = 0; aux = false; odd = 0 }) c.loop-pair-test.true)
      c.loop-pair.invariant.items c.push.ensures.items c.push-in-loop-pair.ensures.items c.append_halves.ensures.items;
  room = omega arith;
}
