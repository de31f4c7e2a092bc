-- What is counted of a recovering report.
use Rattle.std.specs.Prelude.{◌≡◌, ℕ, ◌+◌, List, ◌++◌, ◌&&◌, length, Bool, true, false, Some}
use Rattle.std.specs.List.{count_by}
use Rattle.trace_values.specs.declared.cell.Cell.{Cell}
use Rattle.trace_values.specs.Placed.{Placed}
use Rattle.deformatter.specs.Growth.{fulls_by, halves_by}
use Rattle.deformatter.specs.ReadingGrowth.{frames_by}
use Rattle.deformatter.specs.declared.step.PortStep.{PortStep}
use Rattle.source_counts.specs.Counts.{bytes_of}
use Rattle.source_counts.specs.declared.counts.Counts.{Counts}
use Rattle.source_events.specs.declared.event.Event.{Event}
use Rattle.source_events.specs.declared.event.What.{What}
use Rattle.source_events.specs.declared.event.What.TheVariants.{Packet as Said, Raw, Trigger}
use Rattle.source_events.specs.declared.packet.Packet.{Packet}
use Rattle.source_events.specs.declared.plan.Plan.{Plan}
use Rattle.source_events.specs.declared.tails.PortCounts.{PortCounts}
use Rattle.source_events.specs.Merge.{is_of}
use Rattle.stretch_readings.specs.declared.heard.Heard.{Heard}
use Rattle.stretch_readings.specs.declared.heard.Heard.TheVariants.{Read, Broken}
use Rattle.recovery_report.specs.Port.{PortStretches, recovered, frames_of, fulls_of, halves_of}
use Rattle.recovery_report.specs.Report.{report}

-- how many synchronisations and frames the stretches of a port have, those of broken and unfinished frames too
abbrev pub port_counts_of : Plan → List Placed → PortCounts
port_counts_of plan u = let r = recovered plan.frames u in record {
  fulls = fulls_of r;
  halves = halves_of r;
  frames = length (frames_of r);
}

-- an event that is no notice of a lock, no fault and no guess
abbrev pub is_item : What (Heard Packet) → Bool
is_item (Said (Read packet)) = true
is_item (Raw bytes) = true
is_item (Trigger byte) = true
is_item what = false

abbrev pub is_fault : What (Heard Packet) → Bool
is_fault (Said (Broken reason)) = true
is_fault what = false

-- how many items of a source these events are, and how many faults of the port and of all sources
abbrev pub items_in : ℕ → List (Event (Heard Packet)) → ℕ
items_in x es = count_by (λ e. is_of (Some x) e.source && is_item e.what) es

abbrev pub faults_in : List (Event (Heard Packet)) → ℕ
faults_in es = count_by (λ e. is_fault e.what) es

-- how many bytes a source has, and how many items the report has of it; how many faults the report has
abbrev pub source_counts_of : Plan → List Placed → ℕ → Counts
source_counts_of plan u x =
    record { bytes = bytes_of x (frames_of (recovered plan.frames u)); items = items_in x (report plan u) }

abbrev pub faults_of : Plan → List Placed → ℕ
faults_of plan u = faults_in (report plan u)

-- With a step of the port its frames and synchronisations grew by what the step ends.
pub record CountsGrow (old new : PortStretches) (step : PortStep) (cells : List Cell) : Type 0 where
  pub frames : frames_of new ≡ frames_of old ++ frames_by step cells
  pub fulls : fulls_of new ≡ fulls_of old + fulls_by step
  pub halves : halves_of new ≡ halves_of old + halves_by step
