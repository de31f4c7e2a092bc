-- The lines with a choice or a window are those without, but for those of events that are not listed.
use Rattle.std.proofs.Common.{◌≡◌, ℕ, List, [], ◌∷◌, ◌++◌, refl, ◌∙◌, ap, Bool, true, false, cond}
use Rattle.capture_actions.specs.Names.{Event, Packet, placed, report_of}
use Rattle.capture_actions.specs.declared.list_plan.ListPlan.{ListPlan}
use Rattle.capture_actions.specs.Filtered.{unfiltered, marked_lines, marked, all_lines, listed_lines}
use Rattle.capture_actions.specs.Listing.{is_listed, line_after, lines_after, listed}

all_so : (p : ListPlan) (before es : List (Event Packet)) →
    lines_after (unfiltered p) before es ≡ all_lines (marked_lines p before es)
all_so p before [] = refl
all_so p before (e ∷ es) = ap (λ (l : List ℕ). line_after (unfiltered p) before e ++ l) (all_so p (before ++ e ∷ []) es)

one_so : (b : Bool) (line : List ℕ) (lines : List (Bool × List ℕ)) →
    cond b line [] ++ listed_lines lines ≡ listed_lines ((b, line) ∷ lines)
one_so true line lines = refl
one_so false line lines = refl

some_so : (p : ListPlan) (before es : List (Event Packet)) →
    lines_after p before es ≡ listed_lines (marked_lines p before es)
some_so p before [] = refl
some_so p before (e ∷ es) =
    ap (λ (l : List ℕ). line_after p before e ++ l) (some_so p (before ++ e ∷ []) es)
    ∙ one_so (is_listed p.only p.window before e) (line_after (unfiltered p) before e) (marked_lines p (before ++ e ∷ []) es)

pub all_listed : (p : ListPlan) (bytes : List ℕ) →
    listed (unfiltered p) bytes ≡ all_lines (marked p bytes)
all_listed p bytes = all_so p [] (report_of p.plan (placed bytes))

pub some_listed : (p : ListPlan) (bytes : List ℕ) → listed p bytes ≡ listed_lines (marked p bytes)
some_listed p bytes = some_so p [] (report_of p.plan (placed bytes))
