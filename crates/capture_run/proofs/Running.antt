-- How a run ends, by the outcome of the serving of its input.
use Rattle.std.proofs.Common.{◌≡◌, ℕ, ◌≤◌, List, [], Some, None, refl, sym, ap, ◌∙◌, subst, inl, inr, take}
use Rattle.std.proofs.Common.{◌++◌, arith, true, false}
use Rattle.std.proofs.lemmas.List.{append_cancel_right}
use Rattle.std.specs.declared.option.Option.{Option}
use Rattle.std.specs.Prelude.{codes}
use Rattle.std.specs.Io.KnownBytes.{Consumes, Keeps}
use Rattle.std.proofs.KnownBytes.{Consumes-nil, Appends-nil}
use Rattle.trace_stream.specs.Served.{Meaning, Ends, HasServed, ServedBy}
use Rattle.trace_stream.specs.declared.outcome.Outcome.{Outcome}
use Rattle.trace_stream.specs.declared.outcome.Outcome.TheVariants.{AtEnd, FaultFound, OverLimit}
use Rattle.trace_stream.specs.declared.outcome.Outcome.TheVariants.{ReadFailed, WriteFailed}
use Rattle.capture_words.specs.declared.job.Task.{Task}
use Rattle.capture_run.specs.Actions.{HasDone, limit_of, meaning_of}
use Rattle.capture_run.specs.Notes.{text_of, status_of, is_image, over_text, over_status}
use Rattle.trace_stream.specs.Told.{HasTold, Noted, Notes, told}
use Rattle.trace_stream.proofs.Telling.{notes_more}
use Rattle.trace_text.specs.NoteText.{image_line, limit_line}
use Rattle.capture_run.specs.Run.{HasMade, HasRun, TaskMeaning, TaskNotes, task_of, Streams, Stops, EndsLate}
use Rattle.capture_run.specs.Run.{WritesBy, Loses}
use Rattle.capture_run.specs.declared.actions.FaultNote.{FaultNote}
use Rattle.capture_run.specs.declared.actions.FaultNote.TheVariants.{Image}
use Rattle.capture_run.specs.declared.status.Status.{Status}
use Rattle.capture_run.specs.declared.status.Status.TheVariants.{Done, NoMemory, ReadFault, WriteFault}
use Rattle.capture_run.proofs.EachTask.{Kind, kind_of}

-- the bytes that were lost are told by what was left
pub same_lost : (old new : Option (List ℕ)) (xs ys : List ℕ) → Consumes old new xs → Loses old new ys → xs ≡ ys
same_lost None new xs ys p q = absurd q
same_lost (Some a) None xs ys p q = absurd p
same_lost (Some a) (Some b) xs ys p q = append_cancel_right xs ys b (sym p ∙ q)

-- the input and the output of a run
abbrev pub ends : Streams → Ends
ends s = record { left = s.left; held = s.held }

-- a fault by its note: at the end of the input, where it became certain before, and where the input is too long
writes_late : (fault : FaultNote) (m : TaskMeaning) (limit : ℕ) (left : Option (List ℕ)) (bytes out note : List ℕ)
    → status_of fault ≡ m.fault_status → is_image fault ≡ m.exact
    → EndsLate m limit left bytes out note → WritesBy m limit left (status_of fault) bytes out note
writes_late (Image size) m limit left bytes out note e x w = (sym x, inl w)
writes_late fault m limit left bytes out note e x w = (sym e, inr w)

writes_stop : (fault : FaultNote) (m : TaskMeaning) (limit : ℕ) (left : Option (List ℕ)) (bytes out note : List ℕ)
    → status_of fault ≡ m.fault_status → is_image fault ≡ m.exact
    → (m.exact ≡ true → m.action.faulty (take limit bytes) → ⊥) → Stops m limit left bytes out note → WritesBy m limit left (status_of fault) bytes out note
writes_stop (Image size) m limit left bytes out note e x sound w = absurd (sound (sym x) w.1.0.broken)
writes_stop fault m limit left bytes out note e x sound w = (sym e, inl w)

writes_over : (fault : FaultNote) (m : TaskMeaning) (limit : ℕ) (left : Option (List ℕ)) (bytes out recent before : List ℕ)
    → is_image fault ≡ m.exact → (m.exact ≡ true → text_of fault [] ≡ m.fault_note bytes)
    → before ≡ m.noted (take limit bytes) → ServedBy m.action limit left OverLimit bytes out recent
    → WritesBy m limit left (over_status fault) bytes out (before ++ over_text fault limit)
writes_over (Image size) m limit left bytes out recent before x says is w = (
  sym x,
  inr (
    w,
    ap (λ (l : List ℕ). l ++ image_line size) is
        ∙ ap (λ (l : List ℕ). m.noted (take limit bytes) ++ l) (says (sym x)),
  ),
)
writes_over fault m limit left bytes out recent before x says is w =
    (sym x, w, ap (λ (l : List ℕ). l ++ limit_line limit) is)

-- what the notes of a run show at a moment
abbrev pub notes_of : Streams → Noted
notes_of s = told s.noted s.note_faults

-- How a run is noted once its input is served, by a plan that is that of the run: after what is noted of the bytes that
-- were fed. It is told of an equal plan.
module _ {Plan : Type 0} (meaning : Plan → Meaning) (noted_by : Plan → List ℕ → List ℕ) (notes : Plan → TaskNotes)
    (plan now asked : Plan) (same : now ≡ plan) (equal : plan ≡ asked) (limit : ℕ) (old new : Streams) (mid : Noted)
    (recent : List ℕ) (stands : List ℕ → Type 0) (later : mid.faults ≤ new.note_faults) where
  abbrev action : Meaning
  action = meaning plan

  abbrev noted : List ℕ → List ℕ
  noted = noted_by plan

  abbrev m : TaskMeaning
  m = task_of action noted (notes now)

  abbrev Ran : Status → Type 0
  Ran status = HasRun (task_of (meaning asked) (noted_by asked) (notes asked)) limit old new status

  abbrev Served : Outcome → Type 0
  Served outcome =
      HasServed (HasTold stands noted (notes_of old) mid) action limit (ends old) (ends new) recent outcome

  abbrev Adds : List ℕ → Type 0
  Adds note = Notes mid.held new.noted mid.faults new.note_faults note

  ran : (outcome : Outcome) (s : Served outcome) (by : Status) (note : List ℕ) → Adds note →
      WritesBy m limit new.left by s.bytes s.out (noted s.fed ++ note) → Ran by
  ran outcome s by note adds w =
      subst (λ p. HasRun (task_of (meaning p) (noted_by p) (notes p)) limit old new by) equal
      (subst (λ p. HasRun (task_of action noted (notes p)) limit old new by) same (record {
        bytes = s.bytes;
        out = s.out;
        note = noted s.fed ++ note;
        lost = s.lost;
        gained = s.gained;
        noted = notes_more (notes_of old) mid (notes_of new) (noted s.fed) note s.holds.gained s.holds.later adds later;
        at_most = s.at_most;
        writes = w;
      }))

  -- what is noted, of the bytes that were fed or of those that they are
  said : (f : List ℕ → List ℕ) (fed bytes note : List ℕ) → fed ≡ bytes → note ≡ f fed →
      noted fed ++ note ≡ noted bytes ++ f bytes
  said f fed bytes note is text =
      ap (λ (l : List ℕ). noted fed ++ l) text ∙ ap (λ (l : List ℕ). noted l ++ f l) is

  -- at the end of the input
  pub run_done : (status : Status) (s : Served AtEnd) (note : List ℕ) → status ≡ Done → Adds note →
      (notes now).late s.fed ≡ false → note ≡ (notes now).done_note s.fed → Ran status
  run_done status s note is adds late text =
      subst Ran (sym is) (ran AtEnd s Done note adds (
        s.outcome,
        s.ended refl,
        sym (ap (notes now).late s.feeds) ∙ late,
        said (notes now).done_note s.fed s.bytes note s.feeds text,
      ))

  -- where a read failed, and where a write failed
  pub run_read_failed : Served ReadFailed → Adds (codes "read fault\n") → Ran ReadFault
  run_read_failed s adds =
      let note : List ℕ = codes "read fault\n" in
      ran ReadFailed s ReadFault note adds (s.outcome, ap (λ (l : List ℕ). noted l ++ note) s.feeds)

  pub run_write_failed : Served WriteFailed → Adds (codes "write fault\n") → Ran WriteFault
  run_write_failed s adds =
      ran WriteFailed s WriteFault (codes "write fault\n") adds (s.outcome, s.fed, s.feeds, refl)

  -- a fault
  module _ (fault : FaultNote) (status : Status) (ends_so : status_of fault ≡ (notes now).fault_status)
      (exact : is_image fault ≡ (notes now).exact) where
    abbrev text : List ℕ
    text = text_of fault recent

    -- at the end of the input
    pub run_late : (s : Served AtEnd) → status ≡ status_of fault → Adds text → (notes now).late s.fed ≡ true →
        text ≡ (notes now).fault_note s.fed → Ran status
    run_late s is adds late says =
        subst Ran (sym is) (ran AtEnd s (status_of fault) text adds
        (writes_late fault m limit new.left s.bytes s.out (noted s.fed ++ text) ends_so exact (
          s.outcome,
          s.ended refl,
          sym (ap (notes now).late s.feeds) ∙ late,
          said (notes now).fault_note s.fed s.bytes text s.feeds says,
        )))

    -- where it became certain before
    pub run_stopped : (s : Served FaultFound) → status ≡ status_of fault → Adds text →
        ((seen : List ℕ) → (notes now).exact ≡ true → action.faulty seen → ⊥) →
        text ≡ (notes now).fault_note s.fed → Ran status
    run_stopped s is adds sound says =
        subst Ran (sym is) (ran FaultFound s (status_of fault) text adds
        (writes_stop fault m limit new.left s.bytes s.out (noted s.fed ++ text) ends_so exact
        (sound (take limit s.bytes))
        (recent, s.outcome, said (notes now).fault_note s.fed s.outcome.0.seen text s.feeds says)))

    -- where the input has too many bytes
    pub run_over : (s : Served OverLimit) → status ≡ over_status fault → Adds (over_text fault limit) →
        ((bytes : List ℕ) → (notes now).exact ≡ true → text_of fault [] ≡ (notes now).fault_note bytes) → Ran status
    run_over s is adds says =
        subst Ran (sym is) (ran OverLimit s (over_status fault) (over_text fault limit) adds
        (writes_over fault m limit new.left s.bytes s.out recent (noted s.fed) exact (says s.bytes)
        (ap noted s.feeds) s.outcome))

-- a run by an equal choice, and by an equal task
pub same_choice : {C : Type 0} (meaning : C → TaskMeaning) (limit : ℕ) (old new : Streams) (status : Status) (a b : C) →
    a ≡ b → HasRun (meaning b) limit old new status → HasRun (meaning a) limit old new status
same_choice meaning limit old new status a b is run = subst (λ c. HasRun (meaning c) limit old new status) (sym is) run

pub same_task : (t u : Task) (limit : ℕ) (old new : Streams) (status : Status) → t ≡ u →
    HasDone u limit old new status → HasDone t limit old new status
same_task t u limit old new status is run = subst (λ (v : Task). HasDone v limit old new status) (sym is) run

-- with no memory to begin with nothing is read or written, whatever the task
pub keeps : (left : Option (List ℕ)) → Keeps left left
keeps None = tt
keeps (Some xs) = refl

-- what the streams show then, where the notes took this and failed so often
abbrev pub with_notes : Streams → Option (List ℕ) → ℕ → Streams
with_notes old noted faults = record { left = old.left; held = old.held; noted = noted; note_faults = faults }

module _ (limit : ℕ) (old : Streams) (noted : Option (List ℕ)) (faults : ℕ)
    (note : Notes old.noted noted old.note_faults faults (codes "no memory\n")) where
  pub run_unopened : (m : TaskMeaning) → HasRun m limit old (with_notes old noted faults) NoMemory
  run_unopened m = record {
    bytes = [];
    out = [];
    note = codes "no memory\n";
    lost = Consumes-nil old.left;
    gained = Appends-nil old.held;
    noted = note;
    at_most = omega arith;
    writes = (refl, refl, refl);
  }

  pub made_unopened : (text : List ℕ) → HasMade text old (with_notes old noted faults) NoMemory
  made_unopened page = record {
    out = [];
    note = codes "no memory\n";
    lost = keeps old.left;
    gained = Appends-nil old.held;
    noted = note;
    makes = (refl, refl);
  }

pub done_unopened : (task : Task) (limit : ℕ) (old : Streams) (noted : Option (List ℕ)) (faults : ℕ) →
    Notes old.noted noted old.note_faults faults (codes "no memory\n") →
    HasDone task limit old (with_notes old noted faults) NoMemory
done_unopened task limit old noted faults note = by (kind_of task)
  where
    by : Kind task → HasDone task limit old (with_notes old noted faults) NoMemory
    by (inl reads) = reads.done limit old (with_notes old noted faults) NoMemory
        (run_unopened (limit_of task limit) old noted faults note (meaning_of task))
    by (inr makes) = makes.done limit old (with_notes old noted faults) NoMemory
        (made_unopened limit old noted faults note makes.text)
