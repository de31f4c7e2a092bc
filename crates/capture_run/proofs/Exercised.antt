-- How an exercise ends, by the outcome of the serving of its rest.
use Rattle.std.proofs.Common.{◌≡◌, true, false, ℕ, ◌≤◌, ◌-◌, List, [], ◌∷◌, ◌++◌, ◌⊎◌, Some, None, refl, sym, ap, ◌∙◌, subst, length, take, drop, arith, append-nil, append_assoc, length-append, inl, inr}
use Rattle.std.proofs.lemmas.List.{take-append-drop, take_all}
use Rattle.std.proofs.lemmas.List.{length-drop}
use Rattle.std.specs.declared.option.Option.{Option}
use Rattle.std.specs.Prelude.{codes}
use Rattle.std.specs.Io.KnownBytes.{Consumes, IsAtEnd}
use Rattle.trace_stream.specs.Served.{Ends, HasServed, IsAllRead}
use Rattle.trace_stream.specs.Written.{GrowsOnly}
use Rattle.source_events.specs.declared.plan.Plan.{Plan}
use Rattle.trace_stream.specs.declared.outcome.Outcome.{Outcome}
use Rattle.trace_stream.specs.declared.outcome.Outcome.TheVariants.{AtEnd, FaultFound, ReadFailed, WriteFailed}
use Rattle.trace_stream.specs.declared.outcome.Outcome.TheVariants.{OverLimit}
use Rattle.capture_exercise.specs.declared.maker.TheConstants.{MOST_BYTES}
use Rattle.capture_exercise.specs.Exercise.{exercise_plan, exercise_capture, exercise_rest}
use Rattle.capture_exercise.specs.Summary.{IsFaulty, exercise_meaning, exercise_ending, exercise_summary}
use Rattle.capture_exercise.specs.SummaryLaws.{exercise_lawful}
use Rattle.capture_exercise.specs.declared.plans.ExercisePlan.{ExercisePlan}
use Rattle.trace_stream.specs.Told.{Notes}
use Rattle.capture_run.specs.Run.{HasMade, Streams}
use Rattle.capture_run.specs.declared.status.Status.TheVariants.{Done, WriteFault}
use Rattle.capture_run.proofs.Running.{keeps}

-- what is asked of the serving
abbrev pub plan_for : ℕ → ExercisePlan
plan_for items = record { items = items; capture = length (exercise_capture items); plan = exercise_plan }

plan_is : (items capture : ℕ) (plan : Plan) → capture ≡ length (exercise_capture items) → plan ≡ exercise_plan →
    record { items = items; capture = capture; plan = plan } ≡ plan_for items
plan_is items capture plan e f =
    ap (λ (n : ℕ). let p : ExercisePlan = record { items = items; capture = n; plan = plan } in p) e
    ∙ ap (λ (q : Plan). let p : ExercisePlan = record { items = items; capture = length (exercise_capture items); plan = q } in p) f

-- the serving of what was made, by what was asked for
pub served_for : (there : List ℕ → Type 0) (outcome : Outcome) (p : ExercisePlan) (rest : List ℕ) (items lose limit capture : ℕ) (plan : Plan) (held held' rest_left : Option (List ℕ)) (recent : List ℕ)
    → p ≡ record { items = items; capture = capture; plan = plan } → capture ≡ length (exercise_capture items) → plan ≡ exercise_plan
    → rest ≡ exercise_rest items lose
    → HasServed there (exercise_meaning p) limit (record { left = Some rest; held = held }) (record { left = rest_left; held = held' }) recent outcome
    → HasServed there (exercise_meaning (plan_for items)) limit (record { left = Some (exercise_rest items lose); held = held }) (record { left = rest_left; held = held' }) recent outcome
served_for there outcome p rest items lose limit capture plan held held' rest_left recent is e f r s =
    let new : Ends = record { left = rest_left; held = held' } in
    subst (λ (l : List ℕ). let old : Ends = record { left = Some l; held = held } in HasServed there (exercise_meaning (plan_for items)) limit old new recent outcome) r
    (subst (λ (q : ExercisePlan). let old : Ends = record { left = Some rest; held = held } in HasServed there (exercise_meaning q) limit old new recent outcome) (is ∙ plan_is items capture plan e f) s)

-- what is lost of the rest is a front of it
pub front_of : (rest : List ℕ) (left : Option (List ℕ)) (bytes : List ℕ) → Consumes (Some rest) left bytes →
    (more : List ℕ) × (rest ≡ bytes ++ more)
front_of rest None bytes lost = absurd lost
front_of rest (Some more) bytes lost = (more, lost)

-- and all of it at its end
pub all_of : (rest : List ℕ) (left : Option (List ℕ)) (bytes : List ℕ) → Consumes (Some rest) left bytes → IsAtEnd left →
    bytes ≡ rest
all_of rest None bytes lost end = absurd lost
all_of rest (Some more) bytes lost end = sym (lost ∙ ap (λ (l : List ℕ). bytes ++ l) end ∙ append-nil bytes)

module _ (there : List ℕ → Type 0) (items lose limit : ℕ) (left : Option (List ℕ)) (old new : Streams) (rest_left : Option (List ℕ)) (recent : List ℕ) where
  abbrev before : Ends
  before = record { left = Some (exercise_rest items lose); held = old.held }

  abbrev after : Ends
  after = record { left = rest_left; held = new.held }

  abbrev started : Streams
  started = record { left = left; held = old.held; noted = old.noted; note_faults = old.note_faults }

  abbrev over : Streams
  over = record { left = left; held = new.held; noted = new.noted; note_faults = new.note_faults }

  finished : (outcome : Outcome) (s : HasServed there (exercise_meaning (plan_for items)) limit before after recent outcome) →
      Notes old.noted new.noted old.note_faults new.note_faults [] → s.out ≡ exercise_summary items lose →
      HasMade (exercise_summary items lose) started over Done
  finished outcome s n is =
      record { out = s.out; note = []; lost = keeps left; gained = s.gained; noted = n; makes = (is, refl) }

  -- at a fault the rest tells nothing more
  ended_at : (bytes : List ℕ) → Consumes (Some (exercise_rest items lose)) rest_left bytes →
      IsFaulty (plan_for items) (take limit bytes) →
      exercise_ending (plan_for items) (take limit bytes) ≡ exercise_summary items lose
  ended_at bytes lost broken =
      let front = front_of (exercise_rest items lose) rest_left bytes lost in
      let parts : exercise_rest items lose ≡ take limit bytes ++ (drop limit bytes ++ front.0) =
      front.1 ∙ ap (λ (l : List ℕ). l ++ front.0) (sym (take-append-drop limit bytes)) ∙ append_assoc (take limit bytes) (drop limit bytes) front.0 in
      sym (ap (exercise_ending (plan_for items)) parts ∙ (exercise_lawful (plan_for items)).ending_stays (take limit bytes) (drop limit bytes ++ front.0) broken)

  never_over : HasServed there (exercise_meaning (plan_for items)) limit before after recent OverLimit →
      length (exercise_rest items lose) ≤ limit → ⊥
  never_over s few =
      let front = front_of (exercise_rest items lose) rest_left s.bytes s.lost in
      let len = ap length front.1 ∙ length-append s.bytes front.0 in
      omega (arith, few, len, s.outcome.1)

  -- where none fails all of the summary is out
  pub made_all : (outcome : Outcome) → (outcome ≡ WriteFailed → ⊥) → (outcome ≡ ReadFailed → ⊥) →
      length (exercise_rest items lose) ≤ limit →
      HasServed there (exercise_meaning (plan_for items)) limit before after recent outcome →
      Notes old.noted new.noted old.note_faults new.note_faults [] →
      HasMade (exercise_summary items lose) started over Done
  made_all AtEnd no_write no_read few s n =
      let all = all_of (exercise_rest items lose) rest_left s.bytes s.lost (s.ended refl) in
      finished AtEnd s n (s.outcome.2 ∙ ap (exercise_ending (plan_for items)) all)
  made_all FaultFound no_write no_read few s n =
      finished FaultFound s n (s.outcome.1 ∙ ended_at s.bytes s.lost s.outcome.0.broken)
  made_all OverLimit no_write no_read few s n = absurd (never_over s few)
  made_all ReadFailed no_write no_read few s n = absurd (no_read refl)
  made_all WriteFailed no_write no_read few s n = absurd (no_write refl)

  -- a failed write has a front of the summary out
  at_end : (bytes : List ℕ) → Consumes (Some (exercise_rest items lose)) rest_left bytes → IsAtEnd rest_left → length bytes ≤ limit →
      exercise_ending (plan_for items) (take limit bytes) ≡ exercise_summary items lose
  at_end bytes lost end within =
      ap (exercise_ending (plan_for items)) (take_all limit bytes within ∙ all_of (exercise_rest items lose) rest_left bytes lost end)

  a_front : (out bytes : List ℕ) → Consumes (Some (exercise_rest items lose)) rest_left bytes →
      IsAllRead (IsFaulty (plan_for items)) limit rest_left bytes →
      GrowsOnly out (exercise_ending (plan_for items) (take limit bytes)) → GrowsOnly out (exercise_summary items lose)
  a_front out bytes lost (inl broken) front = (front.0, sym (ended_at bytes lost broken) ∙ front.1)
  a_front out bytes lost (inr all) front = (front.0, sym (at_end bytes lost all.1 all.0) ∙ front.1)

  nothing : (out : List ℕ) → GrowsOnly out [] → GrowsOnly out (exercise_summary items lose)
  nothing [] front = (exercise_summary items lose, refl)
  nothing (x ∷ out) front = absurd (let no = front.1 in cc)

  pub made_failed : HasServed there (exercise_meaning (plan_for items)) limit before after recent WriteFailed →
      Notes old.noted new.noted old.note_faults new.note_faults (codes "write fault\n") → HasMade (exercise_summary items lose) started over WriteFault
  made_failed s n = record { out = s.out; note = codes "write fault\n"; lost = keeps left; gained = s.gained; noted = n; makes = (by s.outcome, refl) }
    where
      all_read : {A : Type 0} → A ⊎ (false ≡ true) → A
      all_read (inl all) = all
      all_read (inr due) = absurd (let no = due in cc)

      by : GrowsOnly s.out [] ⊎ ((IsAllRead (IsFaulty (plan_for items)) limit rest_left s.bytes ⊎ (false ≡ true)) × GrowsOnly s.out (exercise_ending (plan_for items) (take limit s.bytes))) →
          GrowsOnly s.out (exercise_summary items lose)
      by (inl front) = nothing s.out front
      by (inr both) = a_front s.out s.bytes s.lost (all_read both.0) both.1

-- the rest is no longer than the whole
pub few_left : (items lose capture : ℕ) → capture ≡ length (exercise_capture items) → capture ≤ MOST_BYTES →
    length (exercise_rest items lose) ≤ MOST_BYTES
few_left items lose capture e few =
    let len : length (exercise_rest items lose) ≡ length (exercise_capture items) - lose = length-drop lose (exercise_capture items) in
    omega (arith, len, e, few)
