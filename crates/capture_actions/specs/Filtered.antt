-- The listing with a choice or a window, beside the one without.
use Rattle.std.specs.Prelude.{ℕ, List, [], ◌∷◌, ◌++◌, flat_map, filter, None, Bool}
use Rattle.capture_actions.specs.Names.{Event, Packet, placed, report_of}
use Rattle.capture_actions.specs.declared.list_plan.ListPlan.{ListPlan}
use Rattle.capture_actions.specs.Listing.{is_listed, line_after}

-- the same capture, with all its events listed
abbrev pub unfiltered : ListPlan → ListPlan
unfiltered p = record { plan = p.plan; only = None; window = None }

-- The line of each of these events after those before them where all are listed, and beside it whether this event is
-- listed.
abbrev pub marked_lines : ListPlan → List (Event Packet) → List (Event Packet) → List (Bool × List ℕ)
marked_lines p before [] = []
marked_lines p before (e ∷ es) =
    (is_listed p.only p.window before e, line_after (unfiltered p) before e) ∷ marked_lines p (before ++ e ∷ []) es

-- the same of the events of the report of these bytes
abbrev pub marked : ListPlan → List ℕ → List (Bool × List ℕ)
marked p bytes = marked_lines p [] (report_of p.plan (placed bytes))

-- all these lines, and those of the events that are listed
abbrev pub all_lines : List (Bool × List ℕ) → List ℕ
all_lines lines = flat_map (λ line. line.1) lines

abbrev pub listed_lines : List (Bool × List ℕ) → List ℕ
listed_lines lines = all_lines (filter (λ line. line.0) lines)
