-- What lines can say, and its text.
use Rattle.std.specs.Prelude.{◌≡◌, ◌≤◌, ℕ, List, ◌++◌, length, codes, Ok, IsSome}
use Rattle.hex.specs.Hex.{encode_lower, IsBytes}
use Rattle.script_text.specs.Names.{IsProper, ItmPacket, IsProperItem as IsProperStp, Place, StpItem, Plan, kind_of}
use Rattle.script_text.specs.Names.{item_text, stp_text}
use Rattle.itm_grammar.specs.declared.packet.ItmPacket.TheVariants.{Hardware}
use Rattle.dwt_packets.specs.Packet.{IsProperItem as IsProperDwt}
use Rattle.stp_grammar.specs.declared.item.Stamp.TheVariants.{None as NoStamp}
use Rattle.stp_grammar.specs.declared.item.StpItem.TheVariants.{MasterError, Datum, Flag, NullStamp}
use Rattle.trace_text.specs.HardwareText.{hardware_text}
use Rattle.script_text.specs.declared.items.Item.{Item}
use Rattle.script_text.specs.declared.items.Item.TheVariants.{Itm, Dwt, Stp, Raw}
use Rattle.script_text.specs.declared.lines.Line.{Line}
use Rattle.script_text.specs.declared.lines.Line.TheVariants.{Nothing, Of}
use Rattle.script_text.specs.Lines.{taken_by}

-- the text of an item, as the listing has it
abbrev pub text_of : Item → List ℕ
text_of (Itm packet) = item_text packet
text_of (Dwt item) = hardware_text item
text_of (Stp item) = stp_text item
text_of (Raw bytes) = codes "raw " ++ encode_lower bytes

-- a hardware packet is said by its meaning
abbrev pub IsSaidItm : ItmPacket → Type 0
IsSaidItm (Hardware disc size value) = ⊥
IsSaidItm packet = Unit {0}

-- a place, and a timestamp alone, are said only where they are known
abbrev pub IsKnown : Place → Type 0
IsKnown place = IsSome place.master × IsSome place.channel

abbrev pub IsSaidStp : StpItem → Type 0
IsSaidStp (MasterError place code) = IsKnown place
IsSaidStp (Datum place width value marked stamp) = IsKnown place
IsSaidStp (Flag place stamp) = IsKnown place
IsSaidStp (NullStamp NoStamp) = ⊥
IsSaidStp item = Unit {0}

-- an item that a line can say: its numbers are in their ranges, and there are 1 to 100 bytes
abbrev pub IsSayable : Item → Type 0
IsSayable (Itm packet) = IsProper packet × IsSaidItm packet
IsSayable (Dwt item) = IsProperDwt item
IsSayable (Stp item) = IsProperStp item × IsSaidStp item
IsSayable (Raw bytes) = (1 ≤ length bytes) × (length bytes ≤ 100) × IsBytes bytes

-- an item that a line can say, of a source for it
abbrev pub IsSaid : Plan → Line → Type 0
IsSaid plan Nothing = Unit {0}
IsSaid plan (Of id item) =
    (1 ≤ id) × (id ≤ 126) × IsSayable item × (taken_by (kind_of plan id) id item ≡ Ok (Of id item))
