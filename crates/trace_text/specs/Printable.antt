-- Which events have a line.
use Rattle.std.specs.Prelude.{ℕ, ◌<◌, length, Option, IsSome}
use Rattle.itm_grammar.specs.declared.packet.ItmPacket.{ItmPacket}
use Rattle.itm_grammar.specs.declared.packet.ItmPacket.TheVariants.{Local, GlobalFirst, GlobalSecond}
use Rattle.itm_grammar.specs.Proper.{IsProper}
use Rattle.stp_grammar.specs.Proper.{IsProperItem}
use Rattle.source_events.specs.declared.event.Event.{Event}
use Rattle.source_events.specs.declared.event.What.{What}
use Rattle.source_events.specs.declared.event.What.TheVariants.{Locked, Packet as Said, Raw, Trigger}
use Rattle.source_events.specs.declared.packet.Packet.{Packet}
use Rattle.source_events.specs.declared.packet.Packet.TheVariants.{Itm, Stp}
use Rattle.trace_text.specs.declared.remark.Remark.{Remark}
use Rattle.trace_text.specs.declared.remark.Remark.TheVariants.{None as NoRemark, Clock, Time}

-- a packet's numbers are in their ranges
abbrev pub IsProperPacket : Packet → Type 0
IsProperPacket (Itm packet) = IsProper packet
IsProperPacket (Stp item) = IsProperItem item

-- the same of all that is given, and a run has bytes
abbrev pub IsProperWhat : What Packet → Type 0
IsProperWhat (Locked skipped) = Unit {0}
IsProperWhat (Said packet) = IsProperPacket packet
IsProperWhat (Raw bytes) = 0 < length bytes
IsProperWhat (Trigger byte) = Unit {0}

abbrev pub IsClock : Remark → Type 0
IsClock (Clock ticks) = Unit {0}
IsClock remark = ⊥

abbrev pub IsTime : Remark → Type 0
IsTime (Time time) = Unit {0}
IsTime remark = ⊥

abbrev pub IsNone : Remark → Type 0
IsNone NoRemark = Unit {0}
IsNone remark = ⊥

-- beside a local timestamp is its source's clock, beside a global one the time, and beside all else nothing
abbrev pub SuitsPacket : ItmPacket → Remark → Type 0
SuitsPacket (Local lateness delta) remark = IsClock remark
SuitsPacket (GlobalFirst len value change wrap) remark = IsTime remark
SuitsPacket (GlobalSecond wide value) remark = IsTime remark
SuitsPacket packet remark = IsNone remark

abbrev pub Suits : What Packet → Remark → Type 0
Suits (Said (Itm packet)) remark = SuitsPacket packet remark
Suits what remark = IsNone remark

-- only a lock is the port's
abbrev pub HasSource : What Packet → Option ℕ → Type 0
HasSource (Locked skipped) source = Unit {0}
HasSource what source = IsSome source

-- an event that has a line with this remark
pub record IsPrintable (event : Event Packet) (remark : Remark) : Type 0 where
  pub proper : IsProperWhat event.what
  pub suits : Suits event.what remark
  pub source : HasSource event.what event.source
