-- The listing with guesses up to its first fault.
use Rattle.std.specs.Prelude.{ℕ, List, [], Bool, true}
use Rattle.std.specs.List.{before_first}
use Rattle.trace_values.specs.Placed.{placed}
use Rattle.source_events.specs.declared.event.Event.{Event}
use Rattle.source_events.specs.declared.packet.Packet.{Packet}
use Rattle.stretch_readings.specs.declared.heard.Heard.{Heard}
use Rattle.recovery_report.specs.Counts.{is_fault}
use Rattle.recovery_report.specs.Report.{report_with}
use Rattle.capture_actions.specs.declared.list_plan.ListPlan.{ListPlan}
use Rattle.recovery_listing.specs.Marked.{near_entries}

-- the events before the first fault
abbrev pub before_fault : List (Event (Heard Packet)) → List (Event (Heard Packet))
before_fault es = before_first (λ e. is_fault e.what) es

-- their lines, each with whether it is that of a guess
abbrev pub early_marked : ListPlan → List ℕ → List (Bool × List ℕ)
early_marked p bytes = near_entries p [] (before_fault (report_with true p.plan (placed bytes)))
