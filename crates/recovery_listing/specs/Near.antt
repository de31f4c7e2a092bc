-- What `show` writes of a recovering report with its guesses: the lines of what is sure as without them, and at its
-- place that of each guess, with a mark at its end.
use Rattle.std.specs.Prelude.{ℕ, List, [], ◌∷◌, ◌++◌, Result, Ok, Err, Bool, true, false}
use Rattle.trace_values.specs.declared.fault.Reason.{Reason}
use Rattle.trace_values.specs.Placed.{placed}
use Rattle.source_events.specs.declared.event.Event.{Event}
use Rattle.source_events.specs.declared.event.What.{What}
use Rattle.source_events.specs.declared.event.What.TheVariants.{Locked}
use Rattle.source_events.specs.declared.packet.Packet.{Packet}
use Rattle.source_events.specs.Merge.{place_of}
use Rattle.stretch_readings.specs.declared.heard.Heard.{Heard}
use Rattle.recovering_machines.specs.Hearing.{as_event, as_strict, is_guess}
use Rattle.recovery_report.specs.Report.{report_with, sure_events}
use Rattle.trace_stream.specs.Served.{Meaning}
use Rattle.trace_text.specs.FaultText.{fault_line}
use Rattle.trace_text.specs.LineText.{doubted}
use Rattle.capture_actions.specs.declared.list_plan.ListPlan.{ListPlan}
use Rattle.capture_actions.specs.Faulty.{is_stp}
use Rattle.capture_actions.specs.Guesses.{guess_by}
use Rattle.capture_actions.specs.SourceClocks.{without}
use Rattle.recovery_listing.specs.Listing.{ending, line_of}
use Rattle.recovering_machines.specs.Hearing.{seen_in}
use Rattle.recovery_listing.specs.declared.going_on.GoingOn.{GoingOn}

-- The events that the clocks of guesses have taken, with one more: each item, sure or guessed. Over a fault they go on,
-- and at the lock of a source its clocks begin anew, at one of the port those of all.
abbrev pub guess_clocked_by : List (Event Packet) → Event (Heard Packet) → Result (What Packet) Reason →
    List (Event Packet)
guess_clocked_by clocked e (Ok (Locked skipped)) = without e.source clocked
guess_clocked_by clocked e (Ok what) = clocked ++ as_event e what ∷ []
guess_clocked_by clocked e (Err reason) = clocked

abbrev pub guess_clocked_from : List (Event Packet) → List (Event (Heard Packet)) → List (Event Packet)
guess_clocked_from clocked [] = clocked
guess_clocked_from clocked (e ∷ es) = guess_clocked_from (guess_clocked_by clocked e (as_strict e.what)) es

abbrev pub guess_clocked : List (Event (Heard Packet)) → List (Event Packet)
guess_clocked es = guess_clocked_from [] es

-- The line of a guess after the events before it, with its mark; none where it is not listed. A fault of a guess always
-- has one.
abbrev pub guess_line : ListPlan → List (Event (Heard Packet)) → Event (Heard Packet) → Result (What Packet) Reason →
    List ℕ
guess_line p before e (Ok what) = guess_by p (guess_clocked before) (seen_in (sure_events before)) (as_event e what)
guess_line p before e (Err reason) = doubted (fault_line (is_stp p.plan e.source) (place_of e, (reason, e.source)))

-- the line of an event after those before it: of what is sure as without guesses
abbrev pub near_line : ListPlan → List (Event (Heard Packet)) → Event (Heard Packet) → Bool → List ℕ
near_line p before e true = guess_line p before e (as_strict e.what)
near_line p before e false = line_of p (sure_events before) e (as_strict e.what)

-- the lines of events after those before them, in order
abbrev pub near_lines_after : ListPlan → List (Event (Heard Packet)) → List (Event (Heard Packet)) → List ℕ
near_lines_after p before [] = []
near_lines_after p before (e ∷ es) =
    near_line p before e (is_guess e.what) ++ near_lines_after p (before ++ e ∷ []) es

-- the lines of the events of the report, with its guesses or without
abbrev pub listed_with : GoingOn ListPlan → List ℕ → List ℕ
listed_with p bytes = near_lines_after p.plan [] (report_with p.guesses p.plan.plan (placed bytes))

-- all that `show` makes of the bytes of a capture, with guesses or without: no fault ends it, and it ends as without
abbrev pub listing_meaning : GoingOn ListPlan → Meaning
listing_meaning p = record { faulty = λ bytes. ⊥; text = listed_with p; ending = ending p.plan; due = false }

-- the lines with guesses, and the whole listing
abbrev pub near_listed : ListPlan → List ℕ → List ℕ
near_listed p bytes = listed_with (record { plan = p; guesses = true }) bytes

abbrev pub near_listing : ListPlan → List ℕ → List ℕ
near_listing p bytes = near_listed p bytes ++ ending p bytes
