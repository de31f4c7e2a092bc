-- The lines of what the sources and the port gave.
use Rattle.std.specs.Prelude.{ℕ, ◌-◌, List, [], ◌∷◌, ◌++◌, codes, decimal, length, take, Bool, Option, if◌then◌else◌}
use Rattle.std.specs.Prelude.{Some, None}
use Rattle.hex.specs.Hex.{encode_lower}
use Rattle.itm_grammar.specs.declared.packet.ItmPacket.{ItmPacket}
use Rattle.stp_grammar.specs.declared.item.StpItem.{StpItem}
use Rattle.trace_values.specs.Placed.{Place}
use Rattle.source_events.specs.declared.event.Event.{Event}
use Rattle.source_events.specs.declared.event.What.{What}
use Rattle.source_events.specs.declared.event.What.TheVariants.{Locked, Packet as Said, Raw, Trigger}
use Rattle.source_events.specs.declared.packet.Packet.{Packet}
use Rattle.source_events.specs.declared.packet.Packet.TheVariants.{Itm, Stp}
use Rattle.source_events.specs.Merge.{place_of}
use Rattle.trace_text.specs.ItemText.{item_text}
use Rattle.trace_text.specs.StpText.{stp_text}
use Rattle.trace_text.specs.declared.remark.Remark.{Remark}
use Rattle.trace_text.specs.declared.remark.Remark.TheVariants.{None as NoRemark, Clock, Time}

-- `AT`, or `AT.H` for an STP source, whose units alone are halves of bytes
abbrev pub at_text : Bool → Place → List ℕ
at_text stp place = decimal place.at ++ (if stp then codes "." ++ decimal place.half else [])

-- `port`, or the source's number
abbrev pub source_text : Option ℕ → List ℕ
source_text None = codes "port"
source_text (Some id) = decimal id

-- `locked N`, after N skipped units; a packet of either kind; `raw` and the bytes; `trigger HH`
abbrev pub what_text : What Packet → List ℕ
what_text (Locked skipped) = codes "locked " ++ decimal skipped
what_text (Said (Itm packet)) = item_text packet
what_text (Said (Stp item)) = stp_text item
what_text (Raw bytes) = codes "raw " ++ encode_lower bytes
what_text (Trigger byte) = codes "trigger " ++ encode_lower (byte ∷ [])

-- ` clock=N`, ` time=N`, or ` time=?` where the time is not known
abbrev pub remark_text : Remark → List ℕ
remark_text NoRemark = []
remark_text (Clock ticks) = codes " clock=" ++ decimal ticks
remark_text (Time (Some time)) = codes " time=" ++ decimal time
remark_text (Time None) = codes " time=?"

-- `AT SOURCE WHAT`, with its remark; whether its source is an STP source
abbrev pub event_line : Bool → Event Packet → Remark → List ℕ
event_line stp event remark =
    at_text stp (place_of event) ++ (codes " " ++ (source_text event.source
    ++ (codes " " ++ (what_text event.what ++ (remark_text remark ++ codes "\n")))))

-- an ITM packet of this source, whose last byte is here
abbrev pub itm_event : ℕ → ℕ → ItmPacket → Event Packet
itm_event at id packet = record { at = at; half = 0; source = Some id; what = Said (Itm packet) }

-- an item of this STP source, which ends in this half of the byte here
abbrev pub stp_event : ℕ → ℕ → ℕ → StpItem → Event Packet
stp_event at half id item = record { at = at; half = half; source = Some id; what = Said (Stp item) }

-- a run of bytes of this source, which is not mapped, the last of them here
abbrev pub raw_event : ℕ → ℕ → List ℕ → Event Packet
raw_event at id bytes = record { at = at; half = 0; source = Some id; what = Raw bytes }

-- a line with the mark of a guess: ` ?` before the end of the line
abbrev pub doubted : List ℕ → List ℕ
doubted line = take (length line - 1) line ++ codes " ?\n"
