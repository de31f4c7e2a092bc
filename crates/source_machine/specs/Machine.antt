-- What the machine of a source stands for, and what it shows.
use Rattle.std.specs.Prelude.{ℕ, List, Bool}
use Rattle.source_machine.specs.Names.{Placed, Stream, PacketsMode, packets_hunt, packets_in, Order, items_in, Packet}
use Rattle.source_machine.specs.Names.{Itm as ItmPacket, Stp as StpPacket, SourceKind, stream_as}
use Rattle.itm_codec.specs.Decoder as itm
use Rattle.stp_codec.specs.Decoder as stp
use Rattle.source_events.specs.declared.plan.SourceKind.TheVariants.{Itm as ItmKind, Stp as StpKind}
use Rattle.source_machine.specs.declared.machine.SourceMachine.{SourceMachine}
use Rattle.source_machine.specs.declared.machine.SourceMachine.TheVariants.{Itm, Stp}

-- what its list of bytes reads as
abbrev pub reading_of : SourceMachine → List Placed → Stream Packet
reading_of (Itm decoder) u = stream_as ItmPacket (packets_in (itm.is_hunter decoder) u)
reading_of (Stp decoder) u = stream_as StpPacket (items_in (stp.order_of decoder) (stp.is_hunter decoder) u)

-- what the bytes of a source of this kind read as
abbrev pub reading_by : SourceKind → PacketsMode → Order → List Placed → Stream Packet
reading_by ItmKind packets order u = stream_as ItmPacket (packets_in (packets_hunt packets) u)
reading_by StpKind packets order u = stream_as StpPacket (items_in order (packets_hunt packets) u)

-- its decoder stands for this list
abbrev pub Stands : SourceMachine → List Placed → Type 0
Stands (Itm decoder) u = itm.Stands decoder u
Stands (Stp decoder) u = stp.Stands decoder u

-- it has met no fault
abbrev pub is_live : SourceMachine → Bool
is_live (Itm decoder) = itm.is_live decoder
is_live (Stp decoder) = stp.is_live decoder

-- its reading has begun
abbrev pub has_locked : SourceMachine → Bool
has_locked (Itm decoder) = itm.has_locked decoder
has_locked (Stp decoder) = stp.has_locked decoder

-- how many units of an unfinished packet it holds, and how many are before its reading
abbrev pub held_of : SourceMachine → ℕ
held_of (Itm decoder) = itm.held_of decoder
held_of (Stp decoder) = stp.held_of decoder

abbrev pub skipped_by : SourceMachine → ℕ
skipped_by (Itm decoder) = itm.skipped_by decoder
skipped_by (Stp decoder) = stp.skipped_by decoder

-- its units are bytes, or nibbles
abbrev pub units_by : SourceMachine → ℕ
units_by (Itm decoder) = 1
units_by (Stp decoder) = 2
