-- The lines of a recovering report with guesses one by one, each with whether it is a guess.
use Rattle.std.specs.Prelude.{ℕ, List, [], ◌∷◌, ◌++◌, ◌==◌, codes, filter, Bool, true, not}
use Rattle.std.specs.List.{ends_with}
use Rattle.trace_values.specs.Placed.{placed}
use Rattle.source_events.specs.declared.event.Event.{Event}
use Rattle.source_events.specs.declared.packet.Packet.{Packet}
use Rattle.stretch_readings.specs.declared.heard.Heard.{Heard}
use Rattle.recovering_machines.specs.Hearing.{is_guess}
use Rattle.recovery_report.specs.Report.{report_with}
use Rattle.capture_actions.specs.declared.list_plan.ListPlan.{ListPlan}
use Rattle.recovery_listing.specs.Near.{near_line}

-- a line, where an event has one
abbrev pub entry : Bool → List ℕ → List (Bool × List ℕ)
entry guess [] = []
entry guess (code ∷ line) = (guess, code ∷ line) ∷ []

-- the lines of events after those before them, each with whether it is that of a guess
abbrev pub near_entries : ListPlan → List (Event (Heard Packet)) → List (Event (Heard Packet)) → List (Bool × List ℕ)
near_entries p before [] = []
near_entries p before (e ∷ es) =
    entry (is_guess e.what) (near_line p before e (is_guess e.what)) ++ near_entries p (before ++ e ∷ []) es

-- those of the report of these bytes with its guesses
abbrev pub near_marked : ListPlan → List ℕ → List (Bool × List ℕ)
near_marked p bytes = near_entries p [] (report_with true p.plan (placed bytes))

-- the lines that are no guesses
abbrev pub without_guesses : List (Bool × List ℕ) → List (Bool × List ℕ)
without_guesses lines = filter (λ line. not line.0) lines

-- a line ends in the mark of a guess
abbrev pub is_marked : List ℕ → Bool
is_marked line = ends_with (λ a b. a == b) line (codes " ?\n")
