-- Worked rows of sources and their rests, in text.
use Rattle.std.specs.Prelude.{ℕ, List, codes, drop, map, Bool, true, false, Option, option_map, is_none}
use Rattle.resync_grammars.specs.Names.{Reason, hex, Place, placed, Stream, Said, Kept, ItmPacket, packets_in, Order}
use Rattle.resync_grammars.specs.Names.{StpItem, Datum, items_in}

-- a D64 of nibbles F, an ASYNC and VERSION 4
abbrev pub ones : List ℕ
ones = codes "F7 FF FF FF FF FF FF FF FF FF FF FF FF FF FF FF FF FF FF F0 00 04"

-- VERSION 3, M8 5, a D8, an ASYNC, a D8, VERSION 3, a D8
abbrev pub two_versions : List ℕ
two_versions = codes "0F 30 01 45 14 FF FF FF FF FF FF FF FF FF FF 0F 44 F2 00 43 34"

-- what a text reads as from its first byte on
abbrev pub itm_whole : List ℕ → Stream ItmPacket
itm_whole text = packets_in false (placed (hex text))

abbrev pub stp_whole : Order → List ℕ → Stream StpItem
stp_whole order text = items_in order false (placed (hex text))

-- what a hunt in it reads without its first bytes; its offsets are those of the whole text
abbrev pub itm_left : ℕ → List ℕ → Stream ItmPacket
itm_left bytes text = packets_in true (drop bytes (placed (hex text)))

abbrev pub stp_left : Order → ℕ → List ℕ → Stream StpItem
stp_left order bytes text = items_in order true (drop bytes (placed (hex text)))

-- the notice of the lock and the values, with the offsets and halves of their last units
abbrev pub given_of : {V : Type 0} → Stream V → List (Said V × ℕ × ℕ)
given_of s = map (λ x. (x.0, x.1.at, x.1.half)) s.given

-- a data item of an unknown master
abbrev pub has_no_master : Said StpItem × Place → Bool
has_no_master (Kept (Datum place width value marked stamp), at) = is_none place.master
has_no_master x = false

-- whether it reads, how many units it skipped, how many are left over, and the fault with its offset and half
abbrev pub end_of : {V : Type 0} → Stream V → Bool × ℕ × ℕ × Option (ℕ × ℕ × Reason)
end_of s = (s.locked, s.skipped, s.held, option_map (λ f. (f.0.at, f.0.half, f.1)) s.fault)
