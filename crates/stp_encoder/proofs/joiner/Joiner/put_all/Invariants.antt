use Rattle.std.proofs.Common.{◌≡◌, ℕ, ◌+◌, List, ◌++◌, take}
use Rattle.stp_encoder.specs.Joined.{Joins, count_in}
use Rattle.stp_encoder.proofs.joiner.Joiner.put_all.Given as goal

abbrev pub invariant-loop-nibble : goal.invariant-loop-nibble
invariant-loop-nibble l = record {
  joins : (n : List ℕ) → Joins l.initial.self l.initial.out.items n →
      Joins l.self l.out.items (n ++ take l.nibble-index l.nibbles);
  count : count_in l.self l.out.items ≡ count_in l.initial.self l.initial.out.items + l.nibble-index;
}
