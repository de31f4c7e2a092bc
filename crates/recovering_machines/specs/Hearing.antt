-- What events of a recovering report are in a strict one, and which are given.
use Rattle.std.specs.Prelude.{ℕ, Bool, true, false, List, [], ◌∷◌, ◌++◌, map, flat_map, Option, Some, Result, Ok, Err}
use Rattle.trace_values.specs.declared.fault.Reason.{Reason}
use Rattle.source_events.specs.declared.event.Event.{Event}
use Rattle.source_events.specs.declared.event.What.{What}
use Rattle.source_events.specs.declared.event.What.TheVariants.{Locked, Packet as Said, Raw, Trigger}
use Rattle.source_events.specs.declared.packet.Packet.{Packet}
use Rattle.source_events.specs.Fitting.{PacketFits, WhatFits}
use Rattle.stretch_readings.specs.declared.heard.Heard.{Heard}
use Rattle.stretch_readings.specs.declared.heard.Heard.TheVariants.{Read, Broken, Guessed, Misread}

-- What an event is in a strict report, or the reason of its fault; of a guess, what it is there if it is right.
abbrev pub as_strict : What (Heard Packet) → Result (What Packet) Reason
as_strict (Locked skipped) = Ok (Locked skipped)
as_strict (Said (Read packet)) = Ok (Said packet)
as_strict (Said (Broken reason)) = Err reason
as_strict (Said (Guessed packet)) = Ok (Said packet)
as_strict (Said (Misread reason)) = Err reason
as_strict (Raw bytes) = Ok (Raw bytes)
as_strict (Trigger byte) = Ok (Trigger byte)

-- it is a guess
abbrev pub is_guess : What (Heard Packet) → Bool
is_guess (Said (Guessed packet)) = true
is_guess (Said (Misread reason)) = true
is_guess what = false

-- the event there
abbrev pub as_event : Event (Heard Packet) → What Packet → Event Packet
as_event e what = record { at = e.at; half = e.half; source = e.source; what = what }

-- the events that a report without faults has of these: none is a fault
abbrev pub seen_by : Event (Heard Packet) → Result (What Packet) Reason → List (Event Packet)
seen_by e (Ok what) = as_event e what ∷ []
seen_by e (Err reason) = []

abbrev pub seen_in : List (Event (Heard Packet)) → List (Event Packet)
seen_in es = flat_map (λ e. seen_by e (as_strict e.what)) es

-- an event of a report without faults, in one that goes on
abbrev pub as_read_what : What Packet → What (Heard Packet)
as_read_what (Locked skipped) = Locked skipped
as_read_what (Said packet) = Said (Read packet)
as_read_what (Raw bytes) = Raw bytes
as_read_what (Trigger byte) = Trigger byte

abbrev pub as_read : Event Packet → Event (Heard Packet)
as_read e = record { at = e.at; half = e.half; source = e.source; what = as_read_what e.what }

-- Of events, what takes those of a report without faults was given all but the faults.
abbrev pub takes_seen : {S : Type 0} → (S → List (Event Packet) → S → Type 0) →
    S → List (Event (Heard Packet)) → S → Type 0
takes_seen gets old es new = gets old (seen_in es) new

-- What takes those of a report that goes on was given these, which have no fault.
abbrev pub takes_read : {S : Type 0} → (S → List (Event (Heard Packet)) → S → Type 0) →
    S → List (Event Packet) → S → Type 0
takes_read gets old es new = gets old (map as_read es) new

-- it fits there; a fault always does
abbrev pub StrictFits : Result (What Packet) Reason → Option ℕ → Type 0
StrictFits (Ok what) source = WhatFits PacketFits what source
StrictFits (Err reason) source = Unit {0}

abbrev pub HeardFits : Event (Heard Packet) → Type 0
HeardFits e = StrictFits (as_strict e.what) e.source

-- a packet of this source that was read, which ends in this half of the byte here
abbrev pub read_event : ℕ → ℕ → ℕ → Packet → Event (Heard Packet)
read_event source at half packet =
    record { at = at; half = half; source = Some source; what = Said (Read packet) }

-- bytes of this source that are not read, which end here
abbrev pub raw_event : ℕ → ℕ → List ℕ → Event (Heard Packet)
raw_event source at bytes = record { at = at; half = 0; source = Some source; what = Raw bytes }

-- a byte of the trigger source, which is here
abbrev pub trigger_event : ℕ → ℕ → ℕ → Event (Heard Packet)
trigger_event source at byte = record { at = at; half = 0; source = Some source; what = Trigger byte }

-- What takes events adds them up: given none it is as before, and given some and then more it was given all of them.
pub record AddsUp {S E : Type 0} (gets : S → List E → S → Type 0) : Type 0 where
  pub none : (s : S) → gets s [] s
  pub more : (a b c : S) (es fs : List E) → gets a es b → gets b fs c → gets a (es ++ fs) c
