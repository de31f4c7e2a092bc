use Rattle.std.proofs.Common.{◌≡◌, ◌+◌, ◌<◌, ◌≤◌, ◌++◌, length}
use Rattle.itm_codec.specs.Names.{groups_of}
use Rattle.itm_codec.proofs.encoder.put_groups.Given as goal

abbrev pub invariant-groups : goal.invariant-groups
invariant-groups l = record {
  some : 0 < l.left;
  room : length l.out.items + l.left ≤ 8;
  bytes : l.out.items ++ groups_of l.left l.rest ≡ l.initial.out.items ++ groups_of l.count l.value;
}

abbrev pub decreases-groups : goal.decreases-groups
decreases-groups l = l.left
