-- Of a capture without a fault each way of reading lists the same.
use Rattle.std.proofs.Common.{◌≡◌, ◌∙◌, ℕ, ◌+◌, suc, List, [], ◌∷◌, ◌++◌, length, take, refl, sym, ap, arith}
use Rattle.std.proofs.Common.{append_assoc, append-nil, None, Bool, true, false, cond}
use Rattle.std.specs.Prelude.{◌||◌, not, Result, Ok, Err}
use Rattle.std.specs.List.{before_first, list_any, prefix_len}
use Rattle.trace_values.specs.declared.fault.Reason.{Reason}
use Rattle.trace_values.specs.Placed.{Placed, placed}
use Rattle.source_events.specs.declared.event.Event.{Event}
use Rattle.source_events.specs.declared.event.What.{What}
use Rattle.source_events.specs.declared.event.What.TheVariants.{Locked, Packet as Said, Raw, Trigger}
use Rattle.source_events.specs.declared.packet.Packet.{Packet}
use Rattle.source_events.specs.declared.plan.Plan.{Plan}
use Rattle.source_events.specs.Plan.{is_sound}
use Rattle.source_events.proofs.Captures.{capture_rises}
use Rattle.stretch_readings.specs.declared.heard.Heard.{Heard}
use Rattle.stretch_readings.specs.declared.heard.Heard.TheVariants.{Read, Broken, Guessed, Misread}
use Rattle.recovering_machines.specs.Hearing.{as_event, as_strict, is_guess}
use Rattle.recovery_report.specs.Counts.{is_fault}
use Rattle.recovery_report.specs.Port.{recovered}
use Rattle.recovery_report.specs.Report.{parts_in, report, report_with, sure_events}
use Rattle.recovery_report.proofs.Parting.{parts_in_order}
use Rattle.recovery_laws.specs.Strict.{first_by, first_fault, upto, upto_by}
use Rattle.recovery_laws.proofs.Captures.{before}
use Rattle.recovery_laws.proofs.Ends.{ends}
use Rattle.recovery_laws.proofs.Guessed.{sure_first}
use Rattle.recovery_laws.proofs.Led.{no_guess_first}
use Rattle.recovery_laws.proofs.Uptos.{after_none}
use Rattle.source_merge.specs.Answering.{fault_of}
use Rattle.trace_text.specs.EndText.{tails_text}
use Rattle.capture_actions.specs.declared.list_plan.ListPlan.{ListPlan}
use Rattle.capture_actions.specs.Listing as strict
use Rattle.recovery_listing.specs.Listing.{clocked_by, clocked_from, ending, line_of, lines_after}
use Rattle.recovering_machines.specs.Hearing.{seen_by, seen_in}
use Rattle.recovery_listing.specs.Near.{listed_with, near_lines_after}
use Rattle.recovery_listing.proofs.Unguessed.{plain_listed}

abbrev Heards : Type 0
Heards = List (Event (Heard Packet))

abbrev Events : Type 0
Events = List (Event Packet)

-- What the clocks have taken, and what a window has seen, of events without a fault.
clocked : (es : Heards) (c : Events) → first_fault es ≡ None → clocked_from c es ≡ c ++ upto es
clocked [] c e = sym (append-nil c)
clocked (x ∷ es) c e = by (as_strict x.what) e (λ d h. clocked es d h) where
  by : (o : Result (What Packet) Reason) → first_by x o (first_fault es) ≡ None →
      ((d : Events) → first_fault es ≡ None → clocked_from d es ≡ d ++ upto es) →
      clocked_from (clocked_by c x o) es ≡ c ++ upto_by x o (upto es)
  by (Ok what) h more =
      more (c ++ as_event x what ∷ []) h ∙ append_assoc c (as_event x what ∷ []) (upto es)
  by (Err reason) h more = cc

seen : (es : Heards) → first_fault es ≡ None → seen_in es ≡ upto es
seen [] e = refl
seen (x ∷ es) e = by (as_strict x.what) e (λ h. seen es h) where
  by : (o : Result (What Packet) Reason) → first_by x o (first_fault es) ≡ None →
      (first_fault es ≡ None → seen_in es ≡ upto es) → seen_by x o ++ seen_in es ≡ upto_by x o (upto es)
  by (Ok what) h more = ap (λ (l : Events). as_event x what ∷ l) (more h)
  by (Err reason) h more = cc

pub lines : (p : ListPlan) (es first : Heards) → first_fault first ≡ None → first_fault es ≡ None →
    lines_after p first es ≡ strict.lines_from p (upto first) (upto first) (upto es)
lines p [] first b e = refl
lines p (x ∷ es) first b e = by (as_strict x.what) refl e (λ n h. lines p es (first ++ x ∷ []) n h) where
  by : (o : Result (What Packet) Reason) → as_strict x.what ≡ o → first_by x o (first_fault es) ≡ None →
      (first_fault (first ++ x ∷ []) ≡ None → first_fault es ≡ None → lines_after p (first ++ x ∷ []) es
      ≡ strict.lines_from p (upto (first ++ x ∷ [])) (upto (first ++ x ∷ [])) (upto es)) →
      line_of p first x o ++ lines_after p (first ++ x ∷ []) es
      ≡ strict.lines_from p (upto first) (upto first) (upto_by x o (upto es))
  by (Ok what) q h more =
      let after = after_none first (x ∷ []) b in
      let up : upto (first ++ x ∷ []) ≡ upto first ++ as_event x what ∷ [] =
      after.0 ∙ ap (λ (o : Result (What Packet) Reason). upto first ++ upto_by x o []) q in
      let none : first_fault (first ++ x ∷ []) ≡ None =
      after.1 ∙ ap (λ (o : Result (What Packet) Reason). first_by x o None) q in
      ap (λ (l : Events). strict.line_by p l (seen_in first) (as_event x what)
      ++ lines_after p (first ++ x ∷ []) es) (clocked first [] b)
      ∙ ap (λ (l : Events). strict.line_by p (upto first) l (as_event x what)
      ++ lines_after p (first ++ x ∷ []) es) (seen first b)
      ∙ ap (λ (l : List ℕ). strict.line_by p (upto first) (upto first) (as_event x what) ++ l)
      (more none h ∙ ap (λ (l : Events). strict.lines_from p l l (upto es)) up)
  by (Err reason) q h more = cc

-- Without leaders nothing stands before the first one but all of the list.
module _ {X : Type 0} (leads : X → Bool) where
  abbrev ahead : List X → ℕ
  ahead xs = prefix_len (λ x. not (leads x)) xs

  whole : (xs : List X) → list_any leads xs ≡ false → before_first leads xs ≡ xs
  whole [] h = refl
  whole (x ∷ xs) h = by (leads x) refl (λ k. whole xs k) where
    by : (l : Bool) → leads x ≡ l → (list_any leads xs ≡ false → before_first leads xs ≡ xs) →
        before_first leads (x ∷ xs) ≡ x ∷ xs
    by true q more = absurd (let z : (true || list_any leads xs) ≡ false =
        ap (λ (b : Bool). b || list_any leads xs) (sym q) ∙ h in cc)
    by false q more =
        ap (λ (b : Bool). take (cond (not b) (1 + ahead xs) 0) (x ∷ xs)) q
        ∙ ap (λ (n : ℕ). take n (x ∷ xs)) (let z : 1 + ahead xs ≡ suc (ahead xs) = omega arith in z)
        ∙ ap (λ (l : List X). x ∷ l)
        (more (ap (λ (b : Bool). b || list_any leads xs) (sym q) ∙ h))

-- events that are no guesses are all sure
pub all_sure : (es : Heards) → list_any (λ e. is_guess e.what) es ≡ false → sure_events es ≡ es
all_sure [] h = refl
all_sure (x ∷ es) h = by (is_guess x.what) h (λ k. all_sure es k) where
  by : (g : Bool) → (g || list_any (λ e. is_guess e.what) es) ≡ false →
      (list_any (λ e. is_guess e.what) es ≡ false → sure_events es ≡ es) →
      cond (not g) (x ∷ sure_events es) (sure_events es) ≡ x ∷ es
  by true k more = cc
  by false k more = ap (λ (l : Heards). x ∷ l) (more k)

-- where what is sure has no fault there is none
no_fault : (es : Heards) → first_fault (sure_events es) ≡ None → list_any (λ e. is_fault e.what) es ≡ false
no_fault [] h = refl
no_fault (x ∷ es) h = by x.what (λ l. refl) h (λ k. no_fault es k) where
  by : (w : What (Heard Packet)) → ((l : Heards) → first_fault (x ∷ l) ≡ first_by x (as_strict w) (first_fault l)) →
      first_fault (cond (not (is_guess w)) (x ∷ sure_events es) (sure_events es)) ≡ None →
      (first_fault (sure_events es) ≡ None → list_any (λ e. is_fault e.what) es ≡ false) →
      (is_fault w || list_any (λ e. is_fault e.what) es) ≡ false
  by (Locked n) f k more = more (sym (f (sure_events es)) ∙ k)
  by (Said (Read packet)) f k more = more (sym (f (sure_events es)) ∙ k)
  by (Said (Broken reason)) f k more = absurd (let z = sym (f (sure_events es)) ∙ k in cc)
  by (Said (Guessed packet)) f k more = more k
  by (Said (Misread reason)) f k more = more k
  by (Raw bytes) f k more = more (sym (f (sure_events es)) ∙ k)
  by (Trigger byte) f k more = more (sym (f (sure_events es)) ∙ k)

module _ (plan : Plan) (sound : is_sound plan ≡ true) (bytes : List ℕ) (none : fault_of plan (placed bytes) ≡ None) where
  abbrev u : List Placed
  u = placed bytes

  no_first : first_fault (report plan u) ≡ None
  no_first = sym (before plan sound 0 (length bytes) u (capture_rises bytes)).fault ∙ none

  sure : sure_events (report_with true plan u) ≡ report plan u
  sure = sure_first plan (parts_in (recovered plan.frames u)) 0
      (parts_in_order plan.frames u 0 (length bytes) (capture_rises bytes))

  unguessed : list_any (λ e. is_guess e.what) (report_with true plan u) ≡ false
  unguessed =
      ap (list_any (λ (e : Event (Heard Packet)). is_guess e.what))
      (sym (whole (λ (e : Event (Heard Packet)). is_fault e.what) (report_with true plan u)
      (no_fault (report_with true plan u) (ap first_fault sure ∙ no_first))))
      ∙ no_guess_first plan (parts_in (recovered plan.frames u)) 0
      (parts_in_order plan.frames u 0 (length bytes) (capture_rises bytes))

  pub same_report : (guesses : Bool) → report_with guesses plan u ≡ report plan u
  same_report true = sym (all_sure (report_with true plan u) unguessed) ∙ sure
  same_report false = refl

pub same_listing : (p : ListPlan) (guesses : Bool) (bytes : List ℕ) → is_sound p.plan ≡ true →
    fault_of p.plan (placed bytes) ≡ None →
    listed_with (record { plan = p; guesses = guesses }) bytes ++ ending p bytes ≡ strict.listing p bytes
same_listing p guesses bytes sound none =
    let u = placed bytes in
    let b = before p.plan sound 0 (length bytes) u (capture_rises bytes) in
    let listed_is : listed_with (record { plan = p; guesses = guesses }) bytes ≡ strict.listed p bytes =
    ap (near_lines_after p []) (same_report p.plan sound bytes none guesses) ∙ plain_listed p bytes
    ∙ lines p (report p.plan u) [] refl (no_first p.plan sound bytes none)
    ∙ ap (strict.lines_from p [] []) (sym b.events) in
    let ends_are : ending p bytes ≡ strict.ending p bytes =
    ap tails_text (ends p.plan sound 0 (length bytes) u (capture_rises bytes) none).tails
    ∙ ap (strict.ending_by p.plan u) (sym none) in
    ap (λ (l : List ℕ). l ++ ending p bytes) listed_is ∙ ap (λ (l : List ℕ). strict.listed p bytes ++ l) ends_are
