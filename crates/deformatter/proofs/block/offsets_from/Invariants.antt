use Rattle.std.proofs.Common.{◌≡◌, length, take}
use Rattle.std.specs.List.{range_with_len}
use Rattle.deformatter.proofs.block.offsets_from.Given as goal

abbrev pub invariant-loop-index : goal.invariant-loop-index
invariant-loop-index l = record {
  size : length l.offsets ≡ 16;
  front : take l.index l.offsets ≡ range_with_len l.at l.index;
}
