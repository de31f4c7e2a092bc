use Rattle.std.proofs.Common.{◌≡◌, ◌+◌, true}
use Rattle.stp_codec.specs.Names.{Go, is_sound, count_of}
use Rattle.stp_codec.specs.Wholes.{nibbles_in, between}
use Rattle.stp_codec.specs.Cuts.{Leads}
use Rattle.stp_codec.proofs.cut.cut_packet.Given as goal

-- the nibbles so far are within the packet
abbrev pub invariant-loop-index : goal.invariant-loop-index
invariant-loop-index l = record {
  sound : is_sound l.partial ≡ true;
  count : count_of l.partial ≡ count_of l.fn.unfinished + l.index;
  leads : Leads l.order l.fn.unfinished (between (nibbles_in l.bytes) 0 l.index) (Go l.partial);
}
