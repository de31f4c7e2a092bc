-- The recovering listing with a choice or a window, beside the one without.
use Rattle.std.specs.Prelude.{ℕ, List, [], ◌∷◌, ◌++◌, Result, Ok, Err, Bool, true}
use Rattle.trace_values.specs.declared.fault.Reason.{Reason}
use Rattle.trace_values.specs.Placed.{placed}
use Rattle.source_events.specs.declared.event.Event.{Event}
use Rattle.source_events.specs.declared.event.What.{What}
use Rattle.source_events.specs.declared.packet.Packet.{Packet}
use Rattle.stretch_readings.specs.declared.heard.Heard.{Heard}
use Rattle.recovering_machines.specs.Hearing.{as_event, as_strict}
use Rattle.recovery_report.specs.Report.{report}
use Rattle.capture_actions.specs.declared.list_plan.ListPlan.{ListPlan}
use Rattle.capture_actions.specs.Filtered.{unfiltered}
use Rattle.capture_actions.specs.Listing.{is_listed}
use Rattle.recovery_listing.specs.Listing.{line_of}
use Rattle.recovering_machines.specs.Hearing.{seen_in}

-- whether an event after others has a line; a fault always has
abbrev pub has_line : ListPlan → List (Event (Heard Packet)) → Event (Heard Packet) → Result (What Packet) Reason → Bool
has_line p before e (Ok what) = is_listed p.only p.window (seen_in before) (as_event e what)
has_line p before e (Err reason) = true

-- The line of each of these events after those before them where all are listed, and beside it whether this event is
-- listed.
abbrev pub marked_lines : ListPlan → List (Event (Heard Packet)) → List (Event (Heard Packet)) → List (Bool × List ℕ)
marked_lines p before [] = []
marked_lines p before (e ∷ es) =
    (has_line p before e (as_strict e.what), line_of (unfiltered p) before e (as_strict e.what))
    ∷ marked_lines p (before ++ e ∷ []) es

-- the same of the events of the report of these bytes
abbrev pub marked : ListPlan → List ℕ → List (Bool × List ℕ)
marked p bytes = marked_lines p [] (report p.plan (placed bytes))
