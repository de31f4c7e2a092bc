-- Laws of what is sure in a recovering report: what is no guess.
use Rattle.std.proofs.Common.{◌≡◌, List, [], ◌∷◌, ◌++◌, ℕ, sym, ◌∙◌, ap, refl, cond, Bool, true, false, length}
use Rattle.std.specs.Prelude.{◌||◌, not}
use Rattle.std.specs.List.{list_any}
use Rattle.std.proofs.lemmas.Grind.{flat_map-append}
use Rattle.std.proofs.lemmas.List.Elements.{filter-append}
use Rattle.std.proofs.lemmas.List.Folds.{list_any-append}
use Rattle.trace_values.specs.Placed.{placed}
use Rattle.source_events.specs.declared.event.Event.{Event}
use Rattle.source_events.specs.declared.packet.Packet.{Packet}
use Rattle.source_events.specs.declared.plan.Plan.{Plan}
use Rattle.source_events.proofs.Captures.{capture_rises}
use Rattle.stretch_readings.specs.declared.heard.Heard.{Heard}
use Rattle.recovering_machines.specs.Hearing.{as_strict, is_guess}
use Rattle.recovery_report.specs.Report.{report, report_with, sure_events}
use Rattle.recovery_laws.proofs.Guessed.{no_guess, sure_capture}
use Rattle.recovery_listing.specs.Account.{events_of}
use Rattle.recovery_listing.specs.FaultLines.{fault_by, fault_lines, noted_faults}
use Rattle.recovery_listing.specs.Listing.{has_fault, is_err, is_faulty}
use Rattle.recovery_listing.specs.declared.going_on.GoingOn.{GoingOn}

-- where no event is a guess, all are sure
all_sure : (es : List (Event (Heard Packet))) → list_any (λ e. is_guess e.what) es ≡ false → sure_events es ≡ es
all_sure [] none = refl
all_sure (e ∷ es) none = by (is_guess e.what) refl none (all_sure es) where
  by : (g : Bool) → is_guess e.what ≡ g → (g || list_any (λ e. is_guess e.what) es) ≡ false →
      (list_any (λ e. is_guess e.what) es ≡ false → sure_events es ≡ es) →
      cond (not (is_guess e.what)) (e ∷ sure_events es) (sure_events es) ≡ e ∷ es
  by true q none more = cc
  by false q none more =
      ap (λ (g : Bool). cond (not g) (e ∷ sure_events es) (sure_events es)) q
      ∙ ap (λ (l : List (Event (Heard Packet))). e ∷ l) (more none)

sure_by : (guesses : Bool) (plan : Plan) (bytes : List ℕ) →
    sure_events (report_with guesses plan (placed bytes)) ≡ report plan (placed bytes)
sure_by true plan bytes = sure_capture plan bytes
sure_by false plan bytes =
    all_sure (report plan (placed bytes)) (no_guess plan 0 (length bytes) (placed bytes) (capture_rises bytes))

-- what is sure of a capture is its report without guesses
pub sure_of : (how : GoingOn Plan) (bytes : List ℕ) →
    sure_events (events_of how bytes) ≡ report how.plan (placed bytes)
sure_of how bytes = sure_by how.guesses how.plan bytes

-- without guesses they are all events
pub events_sure : (how : GoingOn Plan) (bytes : List ℕ) → how.guesses ≡ false →
    events_of how bytes ≡ report how.plan (placed bytes)
events_sure how bytes e = ap (λ (guesses : Bool). report_with guesses how.plan (placed bytes)) e

pub sure_append : (xs ys : List (Event (Heard Packet))) → sure_events (xs ++ ys) ≡ sure_events xs ++ sure_events ys
sure_append xs ys = filter-append (λ (e : Event (Heard Packet)). not (is_guess e.what)) xs ys

-- with more events more is sure
pub sure_more : (how : GoingOn Plan) (seen front : List ℕ) (given : List (Event (Heard Packet))) →
    events_of how (seen ++ front) ≡ events_of how seen ++ given →
    report how.plan (placed (seen ++ front)) ≡ report how.plan (placed seen) ++ sure_events given
sure_more how seen front given more =
    sym (sure_of how (seen ++ front)) ∙ ap sure_events more ∙ sure_append (events_of how seen) given
    ∙ ap (λ (es : List (Event (Heard Packet))). es ++ sure_events given) (sure_of how seen)

-- the faults and their lines of two lists
pub fault_append : (xs ys : List (Event (Heard Packet))) → has_fault (xs ++ ys) ≡ (has_fault xs || has_fault ys)
fault_append xs ys = list_any-append (λ (x : Event (Heard Packet)). is_err (as_strict x.what)) xs ys

pub fault_lines_append : (xs ys : List (Event (Heard Packet))) →
    fault_lines (xs ++ ys) ≡ fault_lines xs ++ fault_lines ys
fault_lines_append xs ys = flat_map-append (λ (e : Event (Heard Packet)). fault_by e (as_strict e.what)) xs ys

pub sure_faults_append : (xs ys : List (Event (Heard Packet))) →
    has_fault (sure_events (xs ++ ys)) ≡ (has_fault (sure_events xs) || has_fault (sure_events ys))
sure_faults_append xs ys = ap has_fault (sure_append xs ys) ∙ fault_append (sure_events xs) (sure_events ys)

pub sure_lines_append : (xs ys : List (Event (Heard Packet))) →
    fault_lines (sure_events (xs ++ ys)) ≡ fault_lines (sure_events xs) ++ fault_lines (sure_events ys)
sure_lines_append xs ys = ap fault_lines (sure_append xs ys) ∙ fault_lines_append (sure_events xs) (sure_events ys)

-- with more bytes: whether the report has a fault, and what is noted
pub faulty_more : (how : GoingOn Plan) (seen front : List ℕ) (given : List (Event (Heard Packet))) →
    events_of how (seen ++ front) ≡ events_of how seen ++ given →
    is_faulty how.plan (seen ++ front) ≡ (is_faulty how.plan seen || has_fault (sure_events given))
faulty_more how seen front given more =
    ap has_fault (sure_more how seen front given more)
    ∙ fault_append (report how.plan (placed seen)) (sure_events given)

pub noted_more : (how : GoingOn Plan) (seen front : List ℕ) (given : List (Event (Heard Packet))) →
    events_of how (seen ++ front) ≡ events_of how seen ++ given →
    noted_faults how.plan (seen ++ front) ≡ noted_faults how.plan seen ++ fault_lines (sure_events given)
noted_more how seen front given more =
    ap fault_lines (sure_more how seen front given more)
    ∙ fault_lines_append (report how.plan (placed seen)) (sure_events given)
