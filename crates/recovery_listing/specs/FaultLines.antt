-- The lines of faults that are noted of a recovering report, where only what one source sent is written.
use Rattle.std.specs.Prelude.{ℕ, List, [], flat_map, Result, Ok, Err, false}
use Rattle.trace_values.specs.declared.fault.Reason.{Reason}
use Rattle.trace_values.specs.Placed.{placed}
use Rattle.source_events.specs.declared.event.Event.{Event}
use Rattle.source_events.specs.declared.event.What.{What}
use Rattle.source_events.specs.declared.packet.Packet.{Packet}
use Rattle.source_events.specs.declared.plan.Plan.{Plan}
use Rattle.source_events.specs.Merge.{place_of}
use Rattle.stretch_readings.specs.declared.heard.Heard.{Heard}
use Rattle.recovering_machines.specs.Hearing.{as_strict}
use Rattle.recovery_report.specs.Report.{report}
use Rattle.trace_text.specs.FaultText.{fault_line}

-- the line of a fault of the port or of a source, by its byte alone
abbrev pub fault_by : Event (Heard Packet) → Result (What Packet) Reason → List ℕ
fault_by e (Ok what) = []
fault_by e (Err reason) = fault_line false (place_of e, (reason, e.source))

-- those of the faults among some events, in order
abbrev pub fault_lines : List (Event (Heard Packet)) → List ℕ
fault_lines es = flat_map (λ e. fault_by e (as_strict e.what)) es

-- those of the report of these bytes, without its guesses
abbrev pub noted_faults : Plan → List ℕ → List ℕ
noted_faults plan bytes = fault_lines (report plan (placed bytes))
