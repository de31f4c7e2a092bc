-- Where no event is a guess the lines with guesses are those without.
use Rattle.std.proofs.Common.{◌≡◌, ℕ, List, [], ◌∷◌, ◌++◌, length, refl, ◌∙◌, ap, Bool, false}
use Rattle.std.proofs.lemmas.Bool.{or_parts}
use Rattle.std.specs.List.{list_any}
use Rattle.trace_values.specs.Placed.{placed}
use Rattle.source_events.proofs.Captures.{capture_rises}
use Rattle.source_events.specs.declared.event.Event.{Event}
use Rattle.source_events.specs.declared.packet.Packet.{Packet}
use Rattle.source_events.specs.declared.plan.Plan.{Plan}
use Rattle.stretch_readings.specs.declared.heard.Heard.{Heard}
use Rattle.recovering_machines.specs.Hearing.{as_strict, is_guess}
use Rattle.recovery_report.specs.Report.{report, sure_events}
use Rattle.recovery_laws.proofs.Guessed.{no_guess}
use Rattle.capture_actions.specs.declared.list_plan.ListPlan.{ListPlan}
use Rattle.recovery_listing.specs.LineLaws.{sure_push}
use Rattle.recovery_listing.specs.Listing.{line_of, lines_after, listed}
use Rattle.recovery_listing.specs.Near.{listed_with, near_line, near_lines_after}

abbrev Events : Type 0
Events = List (Event (Heard Packet))

abbrev some_guess : Events → Bool
some_guess es = list_any (λ e. is_guess e.what) es

none_guessed : (plan : Plan) (bytes : List ℕ) → some_guess (report plan (placed bytes)) ≡ false
none_guessed plan bytes = no_guess plan 0 (length bytes) (placed bytes) (capture_rises bytes)

pub plain_lines : (p : ListPlan) (before es : Events) → sure_events before ≡ before → some_guess es ≡ false →
    near_lines_after p before es ≡ lines_after p before es
plain_lines p before [] s h = refl
plain_lines p before (e ∷ es) s h =
    let none = or_parts (is_guess e.what) (some_guess es) h in
    let next = before ++ e ∷ [] in
    ap (λ g. near_line p before e g ++ near_lines_after p next es) none.0
    ∙ ap (λ (l : Events). line_of p l e (as_strict e.what) ++ near_lines_after p next es) s
    ∙ ap (λ (l : List ℕ). line_of p before e (as_strict e.what) ++ l)
    (plain_lines p next es (sure_push before e false none.0 ∙ ap (λ (l : Events). l ++ e ∷ []) s) none.1)

pub plain_listed : (p : ListPlan) (bytes : List ℕ) →
    listed_with (record { plan = p; guesses = false }) bytes ≡ listed p bytes
plain_listed p bytes = plain_lines p [] (report p.plan (placed bytes)) refl (none_guessed p.plan bytes)
