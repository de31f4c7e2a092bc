-- The recovering report beside the strict one, which ends at its first fault.
use Rattle.std.specs.Prelude.{◌≡◌, ℕ, List, [], ◌∷◌, Option, None, Some, Result, Ok, Err}
use Rattle.trace_values.specs.declared.fault.Reason.{Reason}
use Rattle.trace_values.specs.Placed.{Place, Placed}
use Rattle.trace_values.specs.declared.reading_modes.FramesMode.{FramesMode}
use Rattle.deformatter.specs.PortReading.{port_reading}
use Rattle.source_events.specs.declared.event.Event.{Event}
use Rattle.source_events.specs.declared.event.What.{What}
use Rattle.source_events.specs.declared.packet.Packet.{Packet}
use Rattle.source_events.specs.declared.plan.Plan.{Plan}
use Rattle.source_events.specs.Merge.{place_of}
use Rattle.source_events.specs.Plan.{sources_by}
use Rattle.source_events.specs.Report as strict
use Rattle.source_events.specs.Tails as strict_ends
use Rattle.stretch_readings.specs.declared.heard.Heard.{Heard}
use Rattle.recovering_machines.specs.Hearing.{as_event, as_strict}
use Rattle.recovery_report.specs.Counts.{port_counts_of, source_counts_of}
use Rattle.recovery_report.specs.Port.{frames_of, fulls_of, halves_of, recovered}
use Rattle.recovery_report.specs.Report.{report, tails_of}

-- an event before others, or the end where it is a fault
abbrev pub upto_by : Event (Heard Packet) → Result (What Packet) Reason → List (Event Packet) → List (Event Packet)
upto_by e (Ok what) rest = as_event e what ∷ rest
upto_by e (Err reason) rest = []

-- the events before the first fault, as a strict report has them
abbrev pub upto : List (Event (Heard Packet)) → List (Event Packet)
upto [] = []
upto (e ∷ es) = upto_by e (as_strict e.what) (upto es)

abbrev pub first_by : Event (Heard Packet) → Result (What Packet) Reason → Option (Place × (Reason × Option ℕ)) →
    Option (Place × (Reason × Option ℕ))
first_by e (Ok what) rest = rest
first_by e (Err reason) rest = Some (place_of e, (reason, e.source))

-- the first fault: its place, its reason and its source
abbrev pub first_fault : List (Event (Heard Packet)) → Option (Place × (Reason × Option ℕ))
first_fault [] = None
first_fault (e ∷ es) = first_by e (as_strict e.what) (first_fault es)

-- The events before the first fault are those of the strict report, and that fault is the strict report's.
pub record IsStrictBefore (plan : Plan) (u : List Placed) : Type 0 where
  pub events : strict.report (sources_by plan) plan.frames u ≡ upto (report plan u)
  pub fault : strict.stop_in (sources_by plan) (port_reading plan.frames u) ≡ first_fault (report plan u)

-- the numbers of the end lines and of the counts are those of the strict report
pub record EndsAsStrict (plan : Plan) (u : List Placed) : Type 0 where
  pub tails : tails_of plan u ≡ strict_ends.tails_of plan u
  pub port_counts : port_counts_of plan u ≡ strict_ends.port_counts_of plan u
  pub source_counts : (x : ℕ) → source_counts_of plan u x ≡ strict_ends.source_counts_of plan u x

-- what all stretches of a port have is what its bytes strictly read as, also where they end in a fault
pub record HasAsStrict (mode : FramesMode) (u : List Placed) : Type 0 where
  pub frames : frames_of (recovered mode u) ≡ (port_reading mode u).frames
  pub fulls : fulls_of (recovered mode u) ≡ (port_reading mode u).fulls
  pub halves : halves_of (recovered mode u) ≡ (port_reading mode u).halves
