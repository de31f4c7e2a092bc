use Rattle.std.proofs.Common.{◌≡◌, ◌+◌, ◌≤◌, ◌++◌, length}
use Rattle.itm_codec.specs.Names.{bytes_of}
use Rattle.itm_codec.proofs.encoder.put_bytes.Given as goal

abbrev pub invariant-bytes : goal.invariant-bytes
invariant-bytes l = record {
  room : length l.out.items + l.left ≤ 8;
  bytes : l.out.items ++ bytes_of l.left l.rest ≡ l.initial.out.items ++ bytes_of l.count l.value;
}

abbrev pub decreases-bytes : goal.decreases-bytes
decreases-bytes l = l.left
