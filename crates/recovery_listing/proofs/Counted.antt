-- A recovering report, which has no guess, has a fault exactly where not none of its events are faults.
use Rattle.std.proofs.Common.{◌≡◌, ℕ, ◌+◌, List, [], ◌∷◌, refl, sym, ◌∙◌, ap, Bool, true, false, cond}
use Rattle.std.proofs.Common.{arith, length, subst}
use Rattle.std.proofs.lemmas.Bool.{or_parts}
use Rattle.std.proofs.lemmas.Bool.Decides.{nat_tests}
use Rattle.std.proofs.lemmas.List.Sums.{sum_by-cons}
use Rattle.std.specs.Prelude.{◌==◌, ◌||◌, not}
use Rattle.std.specs.List.{list_any}
use Rattle.trace_values.specs.Placed.{placed}
use Rattle.source_events.specs.declared.event.Event.{Event}
use Rattle.source_events.specs.declared.event.What.{What}
use Rattle.source_events.specs.declared.event.What.TheVariants.{Locked, Packet as Said, Raw, Trigger}
use Rattle.source_events.specs.declared.packet.Packet.{Packet}
use Rattle.source_events.specs.declared.plan.Plan.{Plan}
use Rattle.source_events.proofs.Captures.{capture_rises}
use Rattle.stretch_readings.specs.declared.heard.Heard.{Heard}
use Rattle.stretch_readings.specs.declared.heard.Heard.TheVariants.{Read, Broken, Guessed, Misread}
use Rattle.recovering_machines.specs.Hearing.{as_strict, is_guess}
use Rattle.recovery_report.specs.Counts.{faults_in, is_fault}
use Rattle.recovery_report.specs.Report.{report}
use Rattle.recovery_laws.proofs.Guessed.{no_guess}
use Rattle.recovery_engine.specs.Heard.{HasHeard}
use Rattle.recovery_engine.specs.declared.heard_counts.HeardCounts.{HeardCounts}
use Rattle.recovery_listing.specs.Account.{events_of}
use Rattle.recovery_listing.specs.Listing.{has_fault, is_err, is_faulty}
use Rattle.recovery_listing.specs.SureLaws.{events_sure}
use Rattle.recovery_listing.specs.declared.going_on.GoingOn.{GoingOn}

same_fault : (w : What (Heard Packet)) → is_guess w ≡ false → is_err (as_strict w) ≡ is_fault w
same_fault (Locked skipped) g = refl
same_fault (Said (Read packet)) g = refl
same_fault (Said (Broken reason)) g = refl
same_fault (Said (Guessed packet)) g = refl
same_fault (Said (Misread reason)) g = cc
same_fault (Raw bytes) g = refl
same_fault (Trigger byte) g = refl

one_more : (n : ℕ) → (1 + n == 0) ≡ false
one_more n = grind (arith, nat_tests)

some_fault : (es : List (Event (Heard Packet))) → list_any (λ e. is_guess e.what) es ≡ false →
    not (faults_in es == 0) ≡ has_fault es
some_fault [] g = refl
some_fault (e ∷ es) g =
    let none = or_parts (is_guess e.what) (list_any (λ e. is_guess e.what) es) g in
    ap (λ (n : ℕ). not (n == 0)) (sum_by-cons (λ (x : Event (Heard Packet)). cond (is_fault x.what) 1 0) e es)
    ∙ by (is_fault e.what) refl (same_fault e.what none.0) (some_fault es none.1) where
      by : (t : Bool) → is_fault e.what ≡ t → is_err (as_strict e.what) ≡ is_fault e.what →
          not (faults_in es == 0) ≡ has_fault es →
          not (cond t 1 0 + faults_in es == 0) ≡ (is_err (as_strict e.what) || has_fault es)
      by true q same h =
          ap not (one_more (faults_in es)) ∙ ap (λ (b : Bool). b || has_fault es) (sym (same ∙ q))
      by false q same h =
          let none : 0 + faults_in es ≡ faults_in es = omega arith in
          ap (λ (n : ℕ). not (n == 0)) none ∙ h ∙ ap (λ (b : Bool). b || has_fault es) (sym (same ∙ q))

-- what counts a report by how it was read
pub faulty_by : (counts : HeardCounts) (n : ℕ) →
    ((es : List (Event (Heard Packet))) → HasHeard counts es → n ≡ faults_in es) → (how : GoingOn Plan)
    (seen : List ℕ) → how.guesses ≡ false → HasHeard counts (events_of how seen) →
    not (n == 0) ≡ is_faulty how.plan seen
faulty_by counts n found how seen sure heard =
    let es = report how.plan (placed seen) in
    ap (λ (m : ℕ). not (m == 0))
    (found es (subst (λ (l : List (Event (Heard Packet))). HasHeard counts l) (events_sure how seen sure) heard))
    ∙ some_fault es (no_guess how.plan 0 (length seen) (placed seen) (capture_rises seen))
