-- The listing with guesses is, without the lines of guesses, the listing; and these lines alone end in the mark.
use Rattle.std.proofs.Common.{◌≡◌, ℕ, ◌-◌, List, [], ◌∷◌, ◌++◌, length, take, refl, sym, ◌∙◌, ap, append-nil}
use Rattle.std.proofs.Common.{Bool, true, false, cond}
use Rattle.std.specs.Prelude.{not, ◌&&◌, Result, Ok, Err}
use Rattle.std.specs.List.{All}
use Rattle.std.proofs.lemmas.List.Elements.{All-nil, All-cons, All-append}
use Rattle.trace_values.specs.declared.fault.Reason.{Reason}
use Rattle.trace_values.specs.Placed.{placed}
use Rattle.source_events.specs.declared.event.Event.{Event}
use Rattle.source_events.specs.declared.event.What.{What}
use Rattle.source_events.specs.declared.packet.Packet.{Packet}
use Rattle.stretch_readings.specs.declared.heard.Heard.{Heard}
use Rattle.recovering_machines.specs.Hearing.{as_event, as_strict, is_guess}
use Rattle.recovery_report.specs.Report.{report, report_with, sure_events}
use Rattle.capture_actions.specs.declared.list_plan.ListPlan.{ListPlan}
use Rattle.source_events.specs.Merge.{place_of}
use Rattle.capture_actions.specs.Faulty.{is_stp}
use Rattle.capture_actions.specs.Filtered.{all_lines}
use Rattle.trace_text.specs.FaultText.{fault_line}
use Rattle.trace_text.specs.LineText.{doubted, event_line}
use Rattle.capture_actions.specs.Guesses.{is_open}
use Rattle.capture_actions.specs.Listing.{is_listed, itm_packets, meets, remark_of}
use Rattle.recovery_listing.specs.LineLaws.{sure_push}
use Rattle.recovery_listing.specs.Listing.{clocked_from, line_of, lines_after, listed}
use Rattle.recovering_machines.specs.Hearing.{seen_in}
use Rattle.recovery_listing.specs.Marked.{entry, is_marked, near_entries, near_marked, without_guesses}
use Rattle.recovery_listing.specs.Near.{guess_clocked, guess_line, near_line, near_lines_after}
use Rattle.recovery_listing.specs.Near.{near_listed}
use Rattle.recovery_listing.proofs.Plain.{event_unmarked, fault_unmarked, marked_line}

abbrev Events : Type 0
Events = List (Event (Heard Packet))

abbrev Lines : Type 0
Lines = List (Bool × List ℕ)

-- the entry of a line
entry_line : (g : Bool) (line : List ℕ) (rest : Lines) → all_lines (entry g line ++ rest) ≡ line ++ all_lines rest
entry_line g [] rest = refl
entry_line g (code ∷ line) rest = refl

guess_entry : (line : List ℕ) (rest : Lines) → without_guesses (entry true line ++ rest) ≡ without_guesses rest
guess_entry [] rest = refl
guess_entry (code ∷ line) rest = refl

sure_entry : (line : List ℕ) (rest : Lines) →
    without_guesses (entry false line ++ rest) ≡ entry false line ++ without_guesses rest
sure_entry [] rest = refl
sure_entry (code ∷ line) rest = refl

-- the lines are those of all entries
pub lines_are : (p : ListPlan) (before es : Events) →
    near_lines_after p before es ≡ all_lines (near_entries p before es)
lines_are p before [] = refl
lines_are p before (e ∷ es) =
    let line = near_line p before e (is_guess e.what) in
    ap (λ (l : List ℕ). line ++ l) (lines_are p (before ++ e ∷ []) es)
    ∙ sym (entry_line (is_guess e.what) line (near_entries p (before ++ e ∷ []) es))

pub all_near : (p : ListPlan) (bytes : List ℕ) → near_listed p bytes ≡ all_lines (near_marked p bytes)
all_near p bytes = lines_are p [] (report_with true p.plan (placed bytes))

-- those of what is sure are those of the listing
module _ (p : ListPlan) (before : Events) (e : Event (Heard Packet)) (es : Events) where
  abbrev next : Events
  next = before ++ e ∷ []

  abbrev rest : Lines
  rest = near_entries p next es

  abbrev sure_so : Type 0
  sure_so = all_lines (without_guesses (near_entries p before (e ∷ es)))
      ≡ lines_after p (sure_events before) (sure_events (e ∷ es))

  by : (g : Bool) → is_guess e.what ≡ g →
      all_lines (without_guesses rest) ≡ lines_after p (sure_events next) (sure_events es) → sure_so
  by true q more =
      ap (λ b. all_lines (without_guesses (entry b (near_line p before e b) ++ rest))) q
      ∙ ap all_lines (guess_entry (near_line p before e true) rest) ∙ more
      ∙ ap (λ (l : Events). lines_after p l (sure_events es))
      (sure_push before e true q ∙ append-nil (sure_events before))
      ∙ ap (λ b. lines_after p (sure_events before) (cond (not b) (e ∷ sure_events es) (sure_events es))) (sym q)
  by false q more =
      let line = near_line p before e false in
      ap (λ b. all_lines (without_guesses (entry b (near_line p before e b) ++ rest))) q
      ∙ ap all_lines (sure_entry line rest) ∙ entry_line false line (without_guesses rest)
      ∙ ap (λ (l : List ℕ). line ++ l) (more ∙ ap (λ (l : Events). lines_after p l (sure_events es))
      (sure_push before e false q))
      ∙ ap (λ b. lines_after p (sure_events before) (cond (not b) (e ∷ sure_events es) (sure_events es))) (sym q)

sure_lines : (p : ListPlan) (before es : Events) →
    all_lines (without_guesses (near_entries p before es)) ≡ lines_after p (sure_events before) (sure_events es)
sure_lines p before [] = refl
sure_lines p before (e ∷ es) = by p before e es (is_guess e.what) refl (sure_lines p (before ++ e ∷ []) es)

pub sure_listed : (p : ListPlan) (bytes : List ℕ) →
    sure_events (report_with true p.plan (placed bytes)) ≡ report p.plan (placed bytes) →
    all_lines (without_guesses (near_marked p bytes)) ≡ listed p bytes
sure_listed p bytes e = sure_lines p [] (report_with true p.plan (placed bytes)) ∙ ap (lines_after p []) e

-- the mark is at the end of these lines and of no other
abbrev IsTold : Bool × List ℕ → Type 0
IsTold line = is_marked line.1 ≡ line.0

told_entry : (g : Bool) (line : List ℕ) → is_marked line ≡ g → All IsTold (entry g line)
told_entry g [] e = All-nil IsTold
told_entry g (code ∷ line) e = All-cons IsTold (g, code ∷ line) [] e (All-nil IsTold)

no_entry : (g : Bool) → All IsTold (entry g [])
no_entry g = All-nil IsTold

doubted_entry : (line : List ℕ) → All IsTold (entry true (doubted line))
doubted_entry line = told_entry true (doubted line) (marked_line (take (length line - 1) line))

chosen_entry : (b g : Bool) (line : List ℕ) → All IsTold (entry g line) → All IsTold (entry g (cond b line []))
chosen_entry true g line h = h
chosen_entry false g line h = no_entry g

guess_entries : (p : ListPlan) (before : Events) (e : Event (Heard Packet)) (r : Result (What Packet) Reason) →
    All IsTold (entry true (guess_line p before e r))
guess_entries p before e (Ok what) =
    let line = event_line (is_stp p.plan e.source) (as_event e what)
    (remark_of (itm_packets e.source (guess_clocked before)) what) in
    chosen_entry (is_open p.window (seen_in (sure_events before)) && meets p.only (as_event e what)) true (doubted line)
    (doubted_entry line)
guess_entries p before e (Err reason) =
    doubted_entry (fault_line (is_stp p.plan e.source) (place_of e, (reason, e.source)))

sure_entries : (p : ListPlan) (before : Events) (e : Event (Heard Packet)) (r : Result (What Packet) Reason) →
    All IsTold (entry false (line_of p before e r))
sure_entries p before e (Ok what) =
    let stp = is_stp p.plan e.source in
    let remark = remark_of (itm_packets e.source (clocked_from [] before)) what in
    let line = event_line stp (as_event e what) remark in
    chosen_entry (is_listed p.only p.window (seen_in before) (as_event e what)) false line
    (told_entry false line (event_unmarked stp (as_event e what) remark))
sure_entries p before e (Err reason) =
    let stp = is_stp p.plan e.source in
    told_entry false (fault_line stp (place_of e, (reason, e.source)))
    (fault_unmarked stp (place_of e, (reason, e.source)))

pub entry_told : (p : ListPlan) (before : Events) (e : Event (Heard Packet)) (g : Bool) →
    All IsTold (entry g (near_line p before e g))
entry_told p before e true = guess_entries p before e (as_strict e.what)
entry_told p before e false = sure_entries p (sure_events before) e (as_strict e.what)

entries_told : (p : ListPlan) (before es : Events) → All IsTold (near_entries p before es)
entries_told p before [] = All-nil IsTold
entries_told p before (e ∷ es) =
    All-append IsTold (entry (is_guess e.what) (near_line p before e (is_guess e.what)))
    (near_entries p (before ++ e ∷ []) es) (entry_told p before e (is_guess e.what))
    (entries_told p (before ++ e ∷ []) es)

pub all_told : (p : ListPlan) (bytes : List ℕ) → All IsTold (near_marked p bytes)
all_told p bytes = entries_told p [] (report_with true p.plan (placed bytes))
