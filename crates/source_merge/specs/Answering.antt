-- What an engine answers to a byte, by the report.
use Rattle.std.specs.Prelude.{◌≡◌, ℕ, List, [], ◌∷◌, ◌++◌, Bool, true, false, Option, None, Some}
use Rattle.trace_values.specs.declared.fault.Reason.{Reason}
use Rattle.trace_values.specs.Placed.{Place, Placed, byte_at}
use Rattle.deformatter.specs.PortReading.{PortReading, port_reading}
use Rattle.source_events.specs.Plan.{sources_by}
use Rattle.source_events.specs.Report.{report, stop_in, stop_of}
use Rattle.source_events.specs.declared.event.Event.{Event}
use Rattle.source_events.specs.declared.event.Stop.{Stop}
use Rattle.source_events.specs.declared.packet.Packet.{Packet}
use Rattle.source_events.specs.declared.plan.Plan.{Plan}
use Rattle.source_merge.specs.declared.flow.Flow.{Flow}
use Rattle.source_merge.specs.declared.flow.Flow.TheVariants.{Going, Stopped}

-- what the port of a capture reads as
abbrev pub port_of : Plan → List Placed → PortReading
port_of plan u = port_reading plan.frames u

-- the events of a capture's report
abbrev pub report_of : Plan → List Placed → List (Event Packet)
report_of plan u = report (sources_by plan) plan.frames u

-- its fault: the least of the port's and of all mapped sources', with its source
abbrev pub fault_of : Plan → List Placed → Option (Place × (Reason × Option ℕ))
fault_of plan u = stop_in (sources_by plan) (port_of plan u)

-- the fault with which a flow stops
abbrev pub fault_by : Flow → Option (Place × (Reason × Option ℕ))
fault_by Going = None
fault_by (Stopped stop) = Some (stop_of stop)

-- the flow of a report that has this fault by now, or none
abbrev pub flow_to : Option Stop → Flow
flow_to None = Going
flow_to (Some stop) = Stopped stop

abbrev pub goes_on : Flow → Bool
goes_on Going = true
goes_on (Stopped stop) = false

-- The answer to this byte, which follows u at this offset: the report grows by these events, and has the fault of this
-- flow.
pub record Answers (plan : Plan) (given : List (Event Packet)) (flow : Flow) (u : List Placed) (at byte : ℕ)
    : Type 0 where
  pub events : report_of plan (u ++ byte_at at byte ∷ []) ≡ report_of plan u ++ given
  pub fault : fault_of plan (u ++ byte_at at byte ∷ []) ≡ fault_by flow
