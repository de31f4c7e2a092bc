-- Before its first fault each way of reading lists the same.
use Rattle.std.proofs.Common.{◌≡◌, ◌∙◌, ℕ, ◌+◌, suc, List, [], ◌∷◌, ◌++◌, length, take, refl, sym, ap, arith}
use Rattle.std.proofs.Common.{append_assoc, append-nil, None, Bool, true, false, cond}
use Rattle.std.specs.Prelude.{not, Result, Ok}
use Rattle.std.specs.List.{All, list_any, prefix_len}
use Rattle.std.proofs.lemmas.Bool.{or_parts}
use Rattle.std.proofs.lemmas.List.Elements.{All-nil, All-cons, All-head, All-append}
use Rattle.trace_values.specs.declared.fault.Reason.{Reason}
use Rattle.trace_values.specs.Placed.{Placed, placed}
use Rattle.source_events.specs.declared.event.Event.{Event}
use Rattle.source_events.specs.declared.event.What.{What}
use Rattle.source_events.specs.declared.event.What.TheVariants.{Locked, Packet as Said, Raw, Trigger}
use Rattle.source_events.specs.declared.packet.Packet.{Packet}
use Rattle.source_events.specs.Plan.{is_sound}
use Rattle.source_events.proofs.Captures.{capture_rises}
use Rattle.stretch_readings.specs.declared.heard.Heard.{Heard}
use Rattle.stretch_readings.specs.declared.heard.Heard.TheVariants.{Read, Broken, Guessed, Misread}
use Rattle.recovering_machines.specs.Hearing.{as_strict, is_guess}
use Rattle.recovery_report.specs.Counts.{is_fault}
use Rattle.recovery_report.specs.Port.{recovered}
use Rattle.recovery_report.specs.Report.{parts_in, report, report_with, sure_events}
use Rattle.recovery_report.proofs.Parting.{parts_in_order}
use Rattle.recovery_laws.specs.Strict.{first_by, first_fault, upto, upto_by}
use Rattle.recovery_laws.proofs.Captures.{before}
use Rattle.recovery_laws.proofs.Guessed.{no_guess, sure_capture}
use Rattle.recovery_laws.proofs.Led.{no_guess_first}
use Rattle.capture_actions.specs.declared.list_plan.ListPlan.{ListPlan}
use Rattle.capture_actions.specs.Filtered.{all_lines}
use Rattle.capture_actions.specs.Listing as strict
use Rattle.recovery_listing.specs.Early.{before_fault, early_marked}
use Rattle.recovery_listing.specs.Listing.{line_of, lines_after, listed}
use Rattle.recovery_listing.specs.Marked.{entry, is_marked, near_entries, near_marked}
use Rattle.recovery_listing.specs.Near.{near_line}
use Rattle.recovery_listing.proofs.Faultless.{all_sure, lines}
use Rattle.recovery_listing.proofs.Guesses.{entry_told, lines_are}
use Rattle.recovery_listing.proofs.Unguessed.{plain_lines}

abbrev Heards : Type 0
Heards = List (Event (Heard Packet))

abbrev Events : Type 0
Events = List (Event Packet)

abbrev some_guess : Heards → Bool
some_guess es = list_any (λ e. is_guess e.what) es

-- the events before the first fault, one by one
abbrev ahead : Heards → ℕ
ahead es = prefix_len (λ e. not (is_fault e.what)) es

early_cons : (e : Event (Heard Packet)) (es : Heards) (t : Bool) → is_fault e.what ≡ t →
    before_fault (e ∷ es) ≡ cond t [] (e ∷ before_fault es)
early_cons e es true q = ap (λ (b : Bool). take (cond (not b) (1 + ahead es) 0) (e ∷ es)) q
early_cons e es false q =
    ap (λ (b : Bool). take (cond (not b) (1 + ahead es) 0) (e ∷ es)) q
    ∙ ap (λ (n : ℕ). take n (e ∷ es)) (let z : 1 + ahead es ≡ suc (ahead es) = omega arith in z)

-- a list is its events before the first fault, and others
record Parted (es : Heards) : Type 0 where
  rest : Heards
  parts : es ≡ before_fault es ++ rest

parted : (es : Heards) → Parted es
parted [] = record { rest = []; parts = refl }
parted (e ∷ es) = by (is_fault e.what) refl (parted es) where
  by : (t : Bool) → is_fault e.what ≡ t → Parted es → Parted (e ∷ es)
  by true q more = record { rest = e ∷ es; parts = sym (ap (λ (l : Heards). l ++ (e ∷ es)) (early_cons e es true q)) }
  by false q more = record {
    rest = more.rest;
    parts = ap (λ (l : Heards). e ∷ l) more.parts
        ∙ sym (ap (λ (l : Heards). l ++ more.rest) (early_cons e es false q));
  }

-- no fault is a guess
sure_fault : (w : What (Heard Packet)) → is_guess w ≡ true → is_fault w ≡ false
sure_fault (Said (Guessed packet)) q = refl
sure_fault (Said (Misread reason)) q = refl
sure_fault (Said (Read packet)) q = refl
sure_fault (Said (Broken reason)) q = cc
sure_fault (Locked skipped) q = refl
sure_fault (Raw bytes) q = refl
sure_fault (Trigger byte) q = refl

-- an event before others, if it is no guess
abbrev kept : Event (Heard Packet) → Bool → Heards → Heards
kept e g l = cond (not g) (e ∷ l) l

-- so those before the first fault are the same with guesses and without, where none of them is a guess
early_sure : (es : Heards) → before_fault (sure_events es) ≡ sure_events (before_fault es)
early_sure [] = refl
early_sure (e ∷ es) = by (is_guess e.what) (is_fault e.what) refl refl (early_sure es) where
  by : (g t : Bool) → is_guess e.what ≡ g → is_fault e.what ≡ t →
      before_fault (sure_events es) ≡ sure_events (before_fault es) →
      before_fault (kept e (is_guess e.what) (sure_events es)) ≡ sure_events (before_fault (e ∷ es))
  by true true q f more = (let z : true ≡ false = sym f ∙ sure_fault e.what q in cc)
  by true false q f more =
      ap (λ (g : Bool). before_fault (kept e g (sure_events es))) q ∙ more
      ∙ sym (ap (λ (g : Bool). kept e g (sure_events (before_fault es))) q)
      ∙ sym (ap sure_events (early_cons e es false f))
  by false true q f more =
      ap (λ (g : Bool). before_fault (kept e g (sure_events es))) q ∙ early_cons e (sure_events es) true f
      ∙ sym (ap sure_events (early_cons e es true f))
  by false false q f more =
      ap (λ (g : Bool). before_fault (kept e g (sure_events es))) q ∙ early_cons e (sure_events es) false f
      ∙ ap (λ (l : Heards). e ∷ l) more
      ∙ sym (ap (λ (g : Bool). kept e g (sure_events (before_fault es))) q)
      ∙ sym (ap sure_events (early_cons e es false f))

-- these events have no fault, and are those before the first fault of others
abbrev Same : Heards → Heards → Type 0
Same l es = (first_fault l ≡ None) × (upto l ≡ upto es)

-- before the first fault there is none
no_first : (es : Heards) → some_guess es ≡ false → Same (before_fault es) es
no_first [] h = (refl, refl)
no_first (e ∷ es) h =
    let none = or_parts (is_guess e.what) (some_guess es) h in
    by e.what none.0 refl (no_first es none.1) where
      read : (what : What Packet) → as_strict e.what ≡ Ok what → is_fault e.what ≡ false →
          Same (before_fault es) es → Same (before_fault (e ∷ es)) (e ∷ es)
      read what q f more = (
        ap first_fault (early_cons e es false f)
            ∙ ap (λ (r : Result (What Packet) Reason). first_by e r (first_fault (before_fault es))) q ∙ more.0,
        ap upto (early_cons e es false f)
            ∙ ap (upto_by e (as_strict e.what)) more.1,
      )

      by : (w : What (Heard Packet)) → is_guess w ≡ false → e.what ≡ w →
          Same (before_fault es) es → Same (before_fault (e ∷ es)) (e ∷ es)
      by (Locked skipped) g q more = read (Locked skipped) (ap as_strict q) (ap is_fault q) more
      by (Said (Read packet)) g q more = read (Said packet) (ap as_strict q) (ap is_fault q) more
      by (Said (Broken reason)) g q more = (
        ap first_fault (early_cons e es true (ap is_fault q)),
        ap upto (early_cons e es true (ap is_fault q))
            ∙ sym (ap (λ (w : What (Heard Packet)). upto_by e (as_strict w) (upto es)) q),
      )
      by (Said (Guessed packet)) g q more = cc
      by (Said (Misread reason)) g q more = cc
      by (Raw bytes) g q more = read (Raw bytes) (ap as_strict q) (ap is_fault q) more
      by (Trigger byte) g q more = read (Trigger byte) (ap as_strict q) (ap is_fault q) more

-- lines of events that follow others
entries_append : (p : ListPlan) (first xs ys : Heards) →
    near_entries p first (xs ++ ys) ≡ near_entries p first xs ++ near_entries p (first ++ xs) ys
entries_append p first [] ys = ap (λ (l : Heards). near_entries p l ys) (sym (append-nil first))
entries_append p first (x ∷ xs) ys =
    let one = entry (is_guess x.what) (near_line p first x (is_guess x.what)) in
    ap (λ l. one ++ l) (entries_append p (first ++ x ∷ []) xs ys
    ∙ ap (λ (l : Heards). near_entries p (first ++ x ∷ []) xs ++ near_entries p l ys) (append_assoc first (x ∷ []) xs))
    ∙ sym (append_assoc one (near_entries p (first ++ x ∷ []) xs) (near_entries p (first ++ (x ∷ xs)) ys))

lines_append : (p : ListPlan) (first xs ys : Heards) →
    lines_after p first (xs ++ ys) ≡ lines_after p first xs ++ lines_after p (first ++ xs) ys
lines_append p first [] ys = ap (λ (l : Heards). lines_after p l ys) (sym (append-nil first))
lines_append p first (x ∷ xs) ys =
    let one = line_of p first x (as_strict x.what) in
    ap (λ (l : List ℕ). one ++ l) (lines_append p (first ++ x ∷ []) xs ys
    ∙ ap (λ (l : Heards). lines_after p (first ++ x ∷ []) xs ++ lines_after p l ys) (append_assoc first (x ∷ []) xs))
    ∙ sym (append_assoc one (lines_after p (first ++ x ∷ []) xs) (lines_after p (first ++ (x ∷ xs)) ys))

-- lines of what is sure
abbrev IsPlain : Bool × List ℕ → Type 0
IsPlain line = (line.0 ≡ false) × (is_marked line.1 ≡ false)

plain_entry : (line : List ℕ) → All (λ (l : Bool × List ℕ). is_marked l.1 ≡ l.0) (entry false line) →
    All IsPlain (entry false line)
plain_entry [] h = All-nil IsPlain
plain_entry (code ∷ line) h =
    let told = All-head (λ (l : Bool × List ℕ). is_marked l.1 ≡ l.0) (false, code ∷ line) [] h in
    All-cons IsPlain (false, code ∷ line) [] (refl, told) (All-nil IsPlain)

plain_entries : (p : ListPlan) (first es : Heards) → some_guess es ≡ false → All IsPlain (near_entries p first es)
plain_entries p first [] h = All-nil IsPlain
plain_entries p first (e ∷ es) h =
    let none = or_parts (is_guess e.what) (some_guess es) h in
    by (is_guess e.what) none.0 (plain_entries p (first ++ e ∷ []) es none.1) where
      by : (g : Bool) → g ≡ false → All IsPlain (near_entries p (first ++ e ∷ []) es) →
          All IsPlain (entry g (near_line p first e g) ++ near_entries p (first ++ e ∷ []) es)
      by true q more = cc
      by false q more =
          All-append IsPlain (entry false (near_line p first e false)) (near_entries p (first ++ e ∷ []) es)
          (plain_entry (near_line p first e false) (entry_told p first e false)) more

module _ (p : ListPlan) (bytes : List ℕ) where
  abbrev u : List Placed
  u = placed bytes

  abbrev guessed : Heards
  guessed = report_with true p.plan u

  abbrev es : Heards
  es = report p.plan u

  unguessed : some_guess (before_fault guessed) ≡ false
  unguessed = no_guess_first p.plan (parts_in (recovered p.plan.frames u)) 0
      (parts_in_order p.plan.frames u 0 (length bytes) (capture_rises bytes))

  none : some_guess es ≡ false
  none = no_guess p.plan 0 (length bytes) u (capture_rises bytes)

  same : before_fault guessed ≡ before_fault es
  same =
      sym (all_sure (before_fault guessed) unguessed) ∙ sym (early_sure guessed)
      ∙ ap before_fault (sure_capture p.plan bytes)

  early_lines : all_lines (early_marked p bytes) ≡ lines_after p [] (before_fault es)
  early_lines =
      sym (lines_are p [] (before_fault guessed)) ∙ plain_lines p [] (before_fault guessed) refl unguessed
      ∙ ap (lines_after p []) same

  pub near_first : (rest : List (Bool × List ℕ)) × (near_marked p bytes ≡ early_marked p bytes ++ rest)
  near_first =
      let s = parted guessed in (
        near_entries p ([] ++ before_fault guessed) s.rest,
        ap (near_entries p []) s.parts ∙ entries_append p [] (before_fault guessed) s.rest,
      )

  pub on_first : (rest : List ℕ) × (listed p bytes ≡ all_lines (early_marked p bytes) ++ rest)
  on_first =
      let s = parted es in (
        lines_after p ([] ++ before_fault es) s.rest,
        ap (lines_after p []) s.parts ∙ lines_append p [] (before_fault es) s.rest
            ∙ ap (λ (l : List ℕ). l ++ lines_after p ([] ++ before_fault es) s.rest) (sym early_lines),
      )

  pub unmarked : All IsPlain (early_marked p bytes)
  unmarked = plain_entries p [] (before_fault guessed) unguessed

  pub strict_lines : is_sound p.plan ≡ true → all_lines (early_marked p bytes) ≡ strict.listed p bytes
  strict_lines sound =
      let first = no_first es none in
      early_lines ∙ lines p (before_fault es) [] refl first.0
      ∙ ap (λ (l : Events). strict.lines_from p [] [] l) (first.1
      ∙ sym (before p.plan sound 0 (length bytes) u (capture_rises bytes)).events)
