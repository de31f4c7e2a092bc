-- What the receiver of a value dump was given, and how much more it has room for.
use Rattle.std.specs.Prelude.{◌≡◌, ℕ, ◌-◌, ◌/◌, List, ◌++◌, length}
use Rattle.value_dump.specs.Names.{Event, ItmPacket, Packet, itm_packets, OUTLET_ROOM}
use Rattle.value_dump.specs.Dump.{lines_after}
use Rattle.value_dump.specs.Dumping.{Stands, hz_of, owed_by}
use Rattle.value_dump.specs.declared.dump.TheConstants.{PACKET_ROOM}
use Rattle.value_dump.specs.declared.source_dump.SourceDump.{SourceDump}

-- Its dump took the packets of its source among these events, and their lines were put. An outlet's value is the list
-- of its bytes.
pub record SourceDumpGets (old : SourceDump × List ℕ) (es : List (Event Packet)) (new : SourceDump × List ℕ)
    : Type 0 where
  pub source : new.0.source ≡ old.0.source
  pub hz : hz_of new.0.dump ≡ hz_of old.0.dump
  pub stands : (before : List ItmPacket) → Stands old.0.dump before →
      Stands new.0.dump (before ++ itm_packets old.0.source es)
  pub text : (before : List ItmPacket) → Stands old.0.dump before →
      new.1 ≡ old.1 ++ lines_after (hz_of old.0.dump) before (itm_packets old.0.source es)

abbrev pub gets : SourceDump × List ℕ → List (Event Packet) → SourceDump × List ℕ → Type 0
gets old es new = SourceDumpGets old es new

-- A packet adds so many bytes at most to what is put and what is pending, and both have room in the outlet.
abbrev pub room : SourceDump × List ℕ → ℕ
room s = (OUTLET_ROOM - owed_by s.0.dump - length s.1) / PACKET_ROOM
