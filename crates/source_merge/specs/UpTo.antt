-- What a receiver is given of a report up to its first fault.
use Rattle.std.specs.Prelude.{◌≡◌, ◌≤◌, ℕ, ◌+◌, List, [], Option, None, Some, min}
use Rattle.std.specs.Option.{option_map}
use Rattle.trace_values.specs.declared.fault.Reason.{Reason}
use Rattle.trace_values.specs.Placed.{Place}
use Rattle.source_events.specs.declared.event.Event.{Event}
use Rattle.source_events.specs.declared.event.Stop.{Stop}
use Rattle.source_events.specs.declared.packet.Packet.{Packet}
use Rattle.source_events.specs.Report.{stop_of}
use Rattle.stretch_readings.specs.declared.heard.Heard.{Heard}
use Rattle.recovery_engine.specs.PerSource.{total_of}
use Rattle.recovery_laws.specs.Strict.{first_fault, upto}
use Rattle.source_merge.specs.Counting.{Counts}
use Rattle.source_merge.specs.declared.up_to.UpTo.{UpTo}

-- what comes before the first fault, where one came already or none
abbrev pub before : Option Stop → List (Event (Heard Packet)) → List (Event Packet)
before None es = upto es
before (Some stop) es = []

-- the first fault of all
abbrev pub fault_after : Option Stop → List (Event (Heard Packet)) → Option (Place × (Reason × Option ℕ))
fault_after None es = first_fault es
fault_after (Some stop) es = Some (stop_of stop)

-- how many more events it takes
abbrev pub room_of : {R S : Type 0} → (R × S → ℕ) → UpTo R × S → ℕ
room_of room s = min s.0.left (room (s.0.receiver.now, s.1))

-- The references are as they were. The receiver was given what comes before the first fault, and that is kept. The
-- events given were counted, and there is room for so many fewer.
pub record UpToGets {R S : Type 0} (own : (R × S) → List (Event Packet) → (R × S) → Type 0) (room : R × S → ℕ)
    (old : UpTo R × S) (es : List (Event (Heard Packet))) (new : UpTo R × S) : Type 0 where
  pub to_same : new.0.receiver.ghost_name ≡ old.0.receiver.ghost_name
  pub count_same : new.0.items.ghost_name ≡ old.0.items.ghost_name
  pub stop_same : new.0.stop.ghost_name ≡ old.0.stop.ghost_name
  pub receiver : own (old.0.receiver.now, old.1) (before old.0.stop.now es) (new.0.receiver.now, new.1)
  pub stop : option_map stop_of new.0.stop.now ≡ fault_after old.0.stop.now es
  pub counted : Counts old.0.items.now new.0.items.now (before old.0.stop.now es)
  pub spent : total_of new.0.items.now + new.0.left ≤ total_of old.0.items.now + old.0.left
  pub space : room (old.0.receiver.now, old.1) + new.0.left ≤ room (new.0.receiver.now, new.1) + old.0.left
