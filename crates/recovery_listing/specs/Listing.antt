-- What `show` writes of a recovering report: the lines of its events, the faults among them, and the end lines.
use Rattle.std.specs.Prelude.{ℕ, List, [], ◌∷◌, ◌++◌, Result, Ok, Err, Bool, true, false}
use Rattle.std.specs.List.{list_any}
use Rattle.trace_values.specs.declared.fault.Reason.{Reason}
use Rattle.trace_values.specs.Placed.{placed}
use Rattle.source_events.specs.declared.event.Event.{Event}
use Rattle.source_events.specs.declared.event.What.{What}
use Rattle.source_events.specs.declared.packet.Packet.{Packet}
use Rattle.source_events.specs.declared.plan.Plan.{Plan}
use Rattle.source_events.specs.Merge.{place_of}
use Rattle.stretch_readings.specs.declared.heard.Heard.{Heard}
use Rattle.recovering_machines.specs.Hearing.{as_event, as_strict, seen_in}
use Rattle.recovery_report.specs.Report.{report, tails_of}
use Rattle.trace_text.specs.EndText.{tails_text}
use Rattle.trace_text.specs.FaultText.{fault_line}
use Rattle.capture_actions.specs.declared.list_plan.ListPlan.{ListPlan}
use Rattle.capture_actions.specs.Faulty.{is_stp}
use Rattle.capture_actions.specs.Listing.{line_by}
use Rattle.capture_actions.specs.SourceClocks.{without}

-- The events that the clocks have taken, with one more. Behind a fault of a source its clocks begin anew, and behind
-- one of the port those of all.
abbrev pub clocked_by : List (Event Packet) → Event (Heard Packet) → Result (What Packet) Reason → List (Event Packet)
clocked_by clocked e (Ok what) = clocked ++ as_event e what ∷ []
clocked_by clocked e (Err reason) = without e.source clocked

abbrev pub clocked_from : List (Event Packet) → List (Event (Heard Packet)) → List (Event Packet)
clocked_from clocked [] = clocked
clocked_from clocked (e ∷ es) = clocked_from (clocked_by clocked e (as_strict e.what)) es

-- there is a fault among these events, or in the report of these bytes
abbrev pub is_err : Result (What Packet) Reason → Bool
is_err (Ok what) = false
is_err (Err reason) = true

abbrev pub has_fault : List (Event (Heard Packet)) → Bool
has_fault es = list_any (λ e. is_err (as_strict e.what)) es

abbrev pub is_faulty : Plan → List ℕ → Bool
is_faulty plan bytes = has_fault (report plan (placed bytes))

-- The line of an event after those before it; none where it is not listed, and a fault always is. A window sees no
-- faults.
abbrev pub line_of : ListPlan → List (Event (Heard Packet)) → Event (Heard Packet) → Result (What Packet) Reason →
    List ℕ
line_of p before e (Ok what) = line_by p (clocked_from [] before) (seen_in before) (as_event e what)
line_of p before e (Err reason) = fault_line (is_stp p.plan e.source) (place_of e, (reason, e.source))

-- the lines of events after those before them, in order
abbrev pub lines_after : ListPlan → List (Event (Heard Packet)) → List (Event (Heard Packet)) → List ℕ
lines_after p before [] = []
lines_after p before (e ∷ es) = line_of p before e (as_strict e.what) ++ lines_after p (before ++ e ∷ []) es

-- the lines of the events of the report, and what comes after them
abbrev pub listed : ListPlan → List ℕ → List ℕ
listed p bytes = lines_after p [] (report p.plan (placed bytes))

abbrev pub ending : ListPlan → List ℕ → List ℕ
ending p bytes = tails_text (tails_of p.plan (placed bytes))

-- the whole listing
abbrev pub listing : ListPlan → List ℕ → List ℕ
listing p bytes = listed p bytes ++ ending p bytes
