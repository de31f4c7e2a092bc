-- Which numbers and runs are as short as their types make them.
use Rattle.std.specs.Prelude.{ℕ, ◌<◌, ◌+◌, ◌≤◌, List, length, decimal, Option, None, Some}
use Rattle.trace_values.specs.declared.fault.Reason.{Reason}
use Rattle.trace_values.specs.Placed.{Place}
use Rattle.source_events.specs.declared.event.Event.{Event}
use Rattle.source_events.specs.declared.event.What.{What}
use Rattle.source_events.specs.declared.event.What.TheVariants.{Locked, Packet as Said, Raw, Trigger}
use Rattle.source_events.specs.declared.packet.Packet.{Packet}
use Rattle.trace_text.specs.declared.lines.TheConstants.{EVENT_ROOM}
use Rattle.trace_text.specs.declared.remark.Remark.{Remark}
use Rattle.trace_text.specs.declared.remark.Remark.TheVariants.{None as NoRemark, Clock, Time}

-- a number has at most this many digits
abbrev pub HasDigits : ℕ → ℕ → Type 0
HasDigits most number = length (decimal number) ≤ most

abbrev pub IsShortWhat : What Packet → Type 0
IsShortWhat (Locked skipped) = HasDigits 20 skipped
IsShortWhat (Said packet) = Unit {0}
IsShortWhat (Raw bytes) = length bytes ≤ 15
IsShortWhat (Trigger byte) = Unit {0}

abbrev pub IsShortSource : Option ℕ → Type 0
IsShortSource None = Unit {0}
IsShortSource (Some id) = HasDigits 3 id

abbrev pub IsShortRemark : Remark → Type 0
IsShortRemark NoRemark = Unit {0}
IsShortRemark (Clock ticks) = HasDigits 20 ticks
IsShortRemark (Time (Some time)) = HasDigits 20 time
IsShortRemark (Time None) = Unit {0}

-- what the types say of an event
pub record IsShort (event : Event Packet) : Type 0 where
  pub at : HasDigits 20 event.at
  pub half : HasDigits 3 event.half
  pub source : IsShortSource event.source
  pub what : IsShortWhat event.what

-- a line has a byte, and beside it there is room for the mark of a guess
abbrev pub IsShortLine : List ℕ → Type 0
IsShortLine line = (0 < length line) × (length line + 2 ≤ EVENT_ROOM)

-- what the types say of a fault with its source
pub record IsShortFault (fault : Place × (Reason × Option ℕ)) : Type 0 where
  pub at : HasDigits 20 fault.0.at
  pub half : HasDigits 3 fault.0.half
  pub source : IsShortSource fault.1.1
