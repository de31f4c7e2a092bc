use Rattle.std.proofs.Common.{◌≡◌, ℕ, ◌+◌, List, ◌++◌, take}
use Rattle.stp_encoder.specs.Names.{nibbles_of_number}
use Rattle.stp_encoder.specs.Joined.{Joins, count_in}
use Rattle.stp_encoder.proofs.joiner.Joiner.put_number.Given as goal

abbrev pub invariant-loop-i : goal.invariant-loop-i
invariant-loop-i l = record {
  joins : (n : List ℕ) → Joins l.initial.self l.initial.out.items n →
      Joins l.self l.out.items (n ++ take l.i (nibbles_of_number l.order l.count l.number));
  count : count_in l.self l.out.items ≡ count_in l.initial.self l.initial.out.items + l.i;
}
