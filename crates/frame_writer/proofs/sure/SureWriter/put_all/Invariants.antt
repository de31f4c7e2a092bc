use Rattle.std.proofs.Common.{◌≤◌, ◌+◌, ◌-◌, ◌*◌, take, length}
use Rattle.arrayvec.specs.ArrayVec.{array_vec_len}
use Rattle.frame_writer.specs.Sure.{Appends, count_of, held_by, pairs_of, of_one}
use Rattle.frame_writer.proofs.sure.SureWriter.put_all.Given as goal

abbrev pub invariant-bytes : goal.invariant-bytes
invariant-bytes g l = record {
  within : l.done ≤ length l.bytes;
  put : Appends l.initial.self l.self (of_one l.id (take l.done l.bytes)) l.initial.out.items l.out.items;
  count : count_of l.self ≤ count_of l.initial.self + l.done;
  load : 7 * count_of l.self + pairs_of l.self ≤ 7 * count_of l.initial.self + pairs_of l.initial.self + 2 * l.done;
  len : array_vec_len l.out + held_by l.self + 132 * count_of l.initial.self ≤ array_vec_len l.initial.out + held_by l.initial.self + 132 * count_of l.self;
}

abbrev pub decreases-bytes : goal.decreases-bytes
decreases-bytes g l = length l.bytes - l.done
