-- The lines with a choice or a window are those without, but for those of events that are not listed.
use Rattle.std.proofs.Common.{◌≡◌, ℕ, List, [], ◌∷◌, ◌++◌, refl, ◌∙◌, ap, Bool, true, false, cond}
use Rattle.std.specs.Prelude.{Result, Ok, Err}
use Rattle.trace_values.specs.declared.fault.Reason.{Reason}
use Rattle.trace_values.specs.Placed.{placed}
use Rattle.source_events.specs.declared.event.Event.{Event}
use Rattle.source_events.specs.declared.event.What.{What}
use Rattle.source_events.specs.declared.packet.Packet.{Packet}
use Rattle.stretch_readings.specs.declared.heard.Heard.{Heard}
use Rattle.recovering_machines.specs.Hearing.{as_event, as_strict}
use Rattle.recovery_report.specs.Report.{report}
use Rattle.capture_actions.specs.declared.list_plan.ListPlan.{ListPlan}
use Rattle.capture_actions.specs.Filtered.{unfiltered, all_lines, listed_lines}
use Rattle.capture_actions.specs.Listing.{is_listed}
use Rattle.recovery_listing.specs.Filtered.{has_line, marked, marked_lines}
use Rattle.recovery_listing.specs.Listing.{line_of, lines_after, listed}
use Rattle.recovering_machines.specs.Hearing.{seen_in}

all_so : (p : ListPlan) (before es : List (Event (Heard Packet))) →
    lines_after (unfiltered p) before es ≡ all_lines (marked_lines p before es)
all_so p before [] = refl
all_so p before (e ∷ es) =
    ap (λ (l : List ℕ). line_of (unfiltered p) before e (as_strict e.what) ++ l) (all_so p (before ++ e ∷ []) es)

one_so : (b : Bool) (line : List ℕ) (lines : List (Bool × List ℕ)) →
    cond b line [] ++ listed_lines lines ≡ listed_lines ((b, line) ∷ lines)
one_so true line lines = refl
one_so false line lines = refl

line_so : (p : ListPlan) (before : List (Event (Heard Packet))) (e : Event (Heard Packet))
    (r : Result (What Packet) Reason) (lines : List (Bool × List ℕ)) → line_of p before e r ++ listed_lines lines
    ≡ listed_lines ((has_line p before e r, line_of (unfiltered p) before e r) ∷ lines)
line_so p before e (Ok what) lines =
    one_so (is_listed p.only p.window (seen_in before) (as_event e what))
    (line_of (unfiltered p) before e (Ok what)) lines
line_so p before e (Err reason) lines = refl

some_so : (p : ListPlan) (before es : List (Event (Heard Packet))) →
    lines_after p before es ≡ listed_lines (marked_lines p before es)
some_so p before [] = refl
some_so p before (e ∷ es) =
    ap (λ (l : List ℕ). line_of p before e (as_strict e.what) ++ l) (some_so p (before ++ e ∷ []) es)
    ∙ line_so p before e (as_strict e.what) (marked_lines p (before ++ e ∷ []) es)

pub all_listed : (p : ListPlan) (bytes : List ℕ) → listed (unfiltered p) bytes ≡ all_lines (marked p bytes)
all_listed p bytes = all_so p [] (report p.plan (placed bytes))

pub some_listed : (p : ListPlan) (bytes : List ℕ) → listed p bytes ≡ listed_lines (marked p bytes)
some_listed p bytes = some_so p [] (report p.plan (placed bytes))
