-- The order of the recovering report.
use Rattle.std.specs.Prelude.{◌≡◌, Bool, List}
use Rattle.trace_values.specs.Placed.{Placed}
use Rattle.source_events.specs.declared.event.Event.{Event}
use Rattle.source_events.specs.declared.packet.Packet.{Packet}
use Rattle.source_events.specs.declared.plan.Plan.{Plan}
use Rattle.source_events.specs.Merge.{IsMerged}
use Rattle.stretch_readings.specs.declared.heard.Heard.{Heard}
use Rattle.recovery_report.specs.Port.{recovered}
use Rattle.recovery_report.specs.Report.{parts_in, report_with, said_by}

-- These events are sorted by place; their part of the port is what the port says, and their part of each source is what
-- that source says, with its guesses or without.
abbrev pub AreOrdered : Bool → Plan → List Placed → List (Event (Heard Packet)) → Type 0
AreOrdered guesses plan u es = IsMerged (λ x. said_by guesses plan x (parts_in (recovered plan.frames u))) es

-- those of the report are, and no others
abbrev pub IsOrdered : Bool → Plan → List Placed → Type 0
IsOrdered guesses plan u = AreOrdered guesses plan u (report_with guesses plan u)

abbrev pub IsOnlyOrder : Bool → Plan → List Placed → Type 0
IsOnlyOrder guesses plan u =
    (es : List (Event (Heard Packet))) → AreOrdered guesses plan u es → es ≡ report_with guesses plan u
