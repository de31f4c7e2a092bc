use Rattle.std.proofs.Common.{◌≡◌, ◌+◌, ◌-◌, ◌<◌, ◌≤◌, List, [], ◌++◌, length, take, true, None}
use Rattle.trace_values.specs.Placed.{Placed, placed_from}
use Rattle.deformatter.specs.Block.{EachByte}
use Rattle.source_merge.specs.Answering.{Answers}
use Rattle.source_merge.specs.declared.flow.Flow.TheVariants.{Going}
use Rattle.source_merge.specs.Engine.{Stands, is_live, next_of, plan_of}
use Rattle.source_merge.proofs.engine.Engine.feed_block.Given as goal

-- the bytes so far gave nothing
abbrev pub invariant-loop-bytes : goal.invariant-loop-bytes
invariant-loop-bytes l = record {
  within : l.bytes ≤ length l.piece;
  live : is_live l.self ≡ true;
  sound : l.stop ≡ None;
  empty : l.out.items ≡ [];
  same : plan_of l.self ≡ plan_of l.fn.self;
  next : next_of l.self ≤ l.at + l.bytes;
  next_is : 0 < l.bytes → next_of l.self ≡ l.at + l.bytes;
  list : (u : List Placed) → Stands l.fn.self u → Stands l.self (u ++ placed_from l.at (take l.bytes l.piece));
  quiet : (u : List Placed) → Stands l.fn.self u → EachByte (Answers (plan_of l.fn.self) [] Going) u l.at (take l.bytes l.piece);
}

abbrev pub decreases-loop-bytes : goal.decreases-loop-bytes
decreases-loop-bytes l = length l.piece - l.bytes
