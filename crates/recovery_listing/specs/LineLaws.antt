-- The lines of events that follow others.
use Rattle.std.proofs.Common.{◌≡◌, ℕ, List, [], ◌∷◌, ◌++◌, sym, ◌∙◌, ap, refl, append_assoc, append-nil, Bool, cond}
use Rattle.std.specs.Prelude.{◌||◌, not}
use Rattle.std.proofs.Math.Bool.{or-false}
use Rattle.std.proofs.lemmas.List.Folds.{list_any-append}
use Rattle.std.proofs.lemmas.Grind.{flat_map-append}
use Rattle.std.proofs.lemmas.List.Elements.{filter-append}
use Rattle.source_events.specs.declared.event.Event.{Event}
use Rattle.source_events.specs.declared.packet.Packet.{Packet}
use Rattle.stretch_readings.specs.declared.heard.Heard.{Heard}
use Rattle.recovering_machines.specs.Hearing.{as_strict, is_guess}
use Rattle.recovery_report.specs.Report.{sure_events}
use Rattle.capture_actions.specs.declared.list_plan.ListPlan.{ListPlan}
use Rattle.recovery_listing.specs.Listing.{clocked_by, clocked_from, has_fault, is_err}
use Rattle.recovering_machines.specs.Hearing.{seen_by, seen_in}
use Rattle.recovery_listing.specs.Near.{guess_clocked_by, guess_clocked_from, near_line, near_lines_after}

pub clocked_append : (clocked : List (Event Packet)) (xs ys : List (Event (Heard Packet))) →
    clocked_from clocked (xs ++ ys) ≡ clocked_from (clocked_from clocked xs) ys
clocked_append clocked [] ys = refl
clocked_append clocked (x ∷ xs) ys = clocked_append (clocked_by clocked x (as_strict x.what)) xs ys

pub fault_push : (es : List (Event (Heard Packet))) (e : Event (Heard Packet)) →
    has_fault (es ++ e ∷ []) ≡ (has_fault es || is_err (as_strict e.what))
fault_push es e =
    list_any-append (λ (x : Event (Heard Packet)). is_err (as_strict x.what)) es (e ∷ [])
    ∙ ap (λ (b : Bool). has_fault es || b) (or-false (is_err (as_strict e.what)))

pub seen_push : (es : List (Event (Heard Packet))) (e : Event (Heard Packet)) →
    seen_in (es ++ e ∷ []) ≡ seen_in es ++ seen_by e (as_strict e.what)
seen_push es e =
    flat_map-append (λ (x : Event (Heard Packet)). seen_by x (as_strict x.what)) es (e ∷ [])
    ∙ ap (λ (l : List (Event Packet)). seen_in es ++ l) (append-nil (seen_by e (as_strict e.what)))

-- with guesses
pub near_append : (p : ListPlan) (before xs ys : List (Event (Heard Packet))) →
    near_lines_after p before (xs ++ ys) ≡ near_lines_after p before xs ++ near_lines_after p (before ++ xs) ys
near_append p before [] ys =
    ap (λ (l : List (Event (Heard Packet))). near_lines_after p l ys) (sym (append-nil before))
near_append p before (x ∷ xs) ys =
    let line = near_line p before x (is_guess x.what) in
    ap (λ (l : List ℕ). line ++ l) (near_append p (before ++ x ∷ []) xs ys)
    ∙ sym (append_assoc line (near_lines_after p (before ++ x ∷ []) xs)
    (near_lines_after p ((before ++ x ∷ []) ++ xs) ys))
    ∙ ap (λ (l : List (Event (Heard Packet))).
    (line ++ near_lines_after p (before ++ x ∷ []) xs) ++ near_lines_after p l ys) (append_assoc before (x ∷ []) xs)

pub guess_clocked_append : (clocked : List (Event Packet)) (xs ys : List (Event (Heard Packet))) →
    guess_clocked_from clocked (xs ++ ys) ≡ guess_clocked_from (guess_clocked_from clocked xs) ys
guess_clocked_append clocked [] ys = refl
guess_clocked_append clocked (x ∷ xs) ys = guess_clocked_append (guess_clocked_by clocked x (as_strict x.what)) xs ys

pub sure_push : (es : List (Event (Heard Packet))) (e : Event (Heard Packet)) (g : Bool) → is_guess e.what ≡ g →
    sure_events (es ++ e ∷ []) ≡ sure_events es ++ cond (not g) (e ∷ []) []
sure_push es e g q = filter-append (λ (x : Event (Heard Packet)). not (is_guess x.what)) es (e ∷ [])
    ∙ ap (λ b. sure_events es ++ cond (not b) (e ∷ []) []) q
