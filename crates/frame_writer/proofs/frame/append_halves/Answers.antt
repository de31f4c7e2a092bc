use Rattle.std.proofs.Common.{arith}
use Rattle.frame_writer.proofs.Bytes.{halves_more}
use Rattle.frame_writer.proofs.frame.append_halves.Goals as goal

pub loop-half-preserved : goal.loop-half-preserved
loop-half-preserved c = record {
  items = halves_more c.loop-half._half c.args.out.now.items _ _ _ c.loop-half.invariant.items c.push.ensures.items c.push-in-loop-half.ensures.items;
  room = omega arith;
}
