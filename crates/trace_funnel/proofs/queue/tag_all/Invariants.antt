use Rattle.std.proofs.Common.{◌≡◌, ◌+◌, ◌++◌, take}
use Rattle.arrayvec.specs.ArrayVec.{array_vec_len}
use Rattle.trace_funnel.specs.Turns.{tagged}
use Rattle.trace_funnel.proofs.queue.tag_all.Given as goal

abbrev pub invariant-loop-byte : goal.invariant-loop-byte
invariant-loop-byte g l = record {
  items : l.out.items ≡ l.initial.out.items ++ tagged l.id (take l.byte-index l.bytes);
  len : array_vec_len l.out ≡ array_vec_len l.initial.out + l.byte-index;
}
