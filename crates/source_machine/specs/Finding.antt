-- What is found and taken of the bytes of a source at once.
use Rattle.std.specs.Prelude.{◌≡◌, ℕ, ◌+◌, ◌/◌, List, [], ◌∷◌, ◌++◌, Option, None, Some, true}
use Rattle.std.specs.Option.{is_some}
use Rattle.source_machine.specs.Names.{Step, Item, Placed, byte_at, units_of, Stream, Passes, Packet, Itm as ItmPacket}
use Rattle.source_machine.specs.Names.{SourceKind}
use Rattle.itm_grammar.specs.Proper.{IsProper}
use Rattle.itm_codec.specs.declared.decoder.ItmEnd.{ItmEnd}
use Rattle.stp_grammar.specs.Said.{said_item, IsProperSaid}
use Rattle.stp_codec.specs.declared.flat.PacketParts.{PacketParts}
use Rattle.source_events.specs.declared.plan.SourceKind.TheVariants.{Itm as ItmKind, Stp as StpKind}
use Rattle.source_machine.specs.Seen.{packet_in}
use Rattle.source_machine.specs.declared.packets.Told.{Told}
use Rattle.source_machine.specs.declared.packets.Told.TheVariants.{Itm, Stp}

-- the answer to the byte in this half of which what is told ends, if anything is
abbrev pub told_in : ℕ → Option Told → Option (Step Packet)
told_in half None = None
told_in half (Some (Itm packet)) = Some (Item half (ItmPacket packet))
told_in half (Some (Stp said)) = packet_in half (said_item said)

-- its numbers are in their ranges, and it has an item
abbrev pub ToldFits : Told → Type 0
ToldFits (Itm packet) = IsProper packet
ToldFits (Stp said) = IsProperSaid said × (is_some (said_item said) ≡ true)

-- the kind of source that tells it
abbrev pub told_by : Told → SourceKind
told_by (Itm packet) = ItmKind
told_by (Stp said) = StpKind

-- Wherever these bytes are, after a list that the machine stood for they give what this answer to the last of them
-- says, and nothing else, and the machine goes on.
abbrev pub PassesOver : {V : Type 0} → (List Placed → Stream V) → (List Placed → Type 0) → (List Placed → Type 0)
    → List ℕ → Option (Step V) → Type 0
PassesOver reading was now bytes step =
    (u front : List Placed) (at byte : ℕ) → was u → units_of (front ++ byte_at at byte ∷ []) ≡ bytes →
    Passes reading now u front (byte_at at byte) step

-- how many bytes the packets take that are found
abbrev pub itm_bytes : ItmEnd → ℕ
itm_bytes end = end.bytes

abbrev pub stp_bytes : PacketParts → ℕ
stp_bytes parts = (parts.nibbles + 1) / 2
