use Rattle.std.proofs.Common.{◌≡◌, ◌+◌, ◌≤◌, take, true}
use Rattle.itm_codec.specs.Names.{walk, Within, rule, is_sound, count_of}
use Rattle.itm_codec.proofs.cut.cut_packet.Given as goal

-- the bytes so far are within the packet
abbrev pub invariant-loop-index : goal.invariant-loop-index
invariant-loop-index l = record {
  part : walk rule l.fn.unfinished (take l.index l.bytes) ≡ Within l.partial;
  sound : is_sound l.partial ≡ true;
  few : count_of l.partial ≤ count_of l.fn.unfinished + l.index;
}
