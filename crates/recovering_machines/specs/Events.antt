-- Events of a report without faults, by their parts, and a list of them that takes more.
use Rattle.std.specs.Prelude.{◌≡◌, ℕ, ◌-◌, ◌++◌, List, Some}
use Rattle.arrayvec.specs.ArrayVec.{ArrayVec, array_vec_len}
use Rattle.source_events.specs.Fitting.{AllFit, PacketFits}
use Rattle.source_events.specs.declared.event.Event.{Event}
use Rattle.source_events.specs.declared.event.What.TheVariants.{Packet as Said, Raw, Trigger}
use Rattle.source_events.specs.declared.packet.Packet.{Packet}
use Rattle.recovering_machines.specs.declared.events.TheConstants.{EVENTS}

-- a packet of this source, which ends in this half of the byte here; and bytes of it that are not read, which end here
abbrev pub packet_event : ℕ → ℕ → ℕ → Packet → Event Packet
packet_event source at half packet = record { at = at; half = half; source = Some source; what = Said packet }

abbrev pub raw_event : ℕ → ℕ → List ℕ → Event Packet
raw_event source at bytes = record { at = at; half = 0; source = Some source; what = Raw bytes }

-- a byte of the trigger source, which is here
abbrev pub trigger_event : ℕ → ℕ → ℕ → Event Packet
trigger_event source at byte = record { at = at; half = 0; source = Some source; what = Trigger byte }

-- it has these events after those that it had, and their numbers are in their ranges
abbrev pub list_gets : ArrayVec (Event Packet) × Unit {0} → List (Event Packet) →
    ArrayVec (Event Packet) × Unit {0} → Type 0
list_gets old es new = (new.0.items ≡ old.0.items ++ es) × AllFit PacketFits es

abbrev pub list_room : ArrayVec (Event Packet) × Unit {0} → ℕ
list_room s = EVENTS - array_vec_len s.0
