-- What tasks wrote, by their meanings.
use Rattle.std.proofs.Common.{◌≡◌, ◌∙◌, ℕ, List, ◌++◌, sym, subst, true, false, inl, inr, take}
use Rattle.std.specs.Io.KnownBytes.{Appends}
use Rattle.trace_stream.specs.Told.{Notes}
use Rattle.capture_run.specs.Run.{HasMade, HasRun, Streams, TaskMeaning}
use Rattle.capture_run.specs.Tasks.{WroteAll, WroteOnly, WroteUpTo}
use Rattle.capture_run.specs.declared.status.Status.TheVariants.{CaptureFault, Done, Recovered}

module _ (m : TaskMeaning) (text : List ℕ → List ℕ)
    (same : (b : List ℕ) → m.action.text b ++ m.action.ending b ≡ text b) (limit : ℕ) (old new : Streams) where
  pub all_of : (note : List ℕ → List ℕ) → ((b : List ℕ) → m.noted b ++ m.done_note b ≡ note b) →
      HasRun m limit old new Done → WroteAll old new text note
  all_of note is run = record {
    bytes = run.bytes;
    lost = run.lost;
    ended = run.writes.1;
    gained = subst (Appends old.held new.held) (run.writes.0.2 ∙ same run.bytes) run.gained;
    noted = subst (Notes old.noted new.noted old.note_faults new.note_faults) (run.writes.3 ∙ is run.bytes) run.noted;
  }

  pub over_all : (note : List ℕ → List ℕ) → ((b : List ℕ) → m.noted b ++ m.fault_note b ≡ note b) →
      ((b : List ℕ) → m.action.faulty b → ⊥) → HasRun m limit old new Recovered → WroteAll old new text note
  over_all note is sound run = elim run.writes.1 [
    | inl s ↦ absurd (sound (take limit run.bytes) s.1.0.broken)
    | inr e ↦ record {
      bytes = run.bytes;
      lost = run.lost;
      ended = e.1;
      gained = subst (Appends old.held new.held) (e.0.2 ∙ same run.bytes) run.gained;
      noted = subst (Notes old.noted new.noted old.note_faults new.note_faults) (e.3 ∙ is run.bytes) run.noted;
    }
  ]

  pub up_to : ((b : List ℕ) → m.late b ≡ false) → HasRun m limit old new CaptureFault →
      WroteUpTo limit m.action.faulty old new text (λ b. m.noted b ++ m.fault_note b)
  up_to never run = elim run.writes.1 [
    | inl s ↦ record {
      bytes = run.bytes;
      lost = run.lost;
      stop = s.1.0;
      gained = subst (Appends old.held new.held) (s.1.1 ∙ same (take limit run.bytes)) run.gained;
      noted = subst (Notes old.noted new.noted old.note_faults new.note_faults) s.2 run.noted;
    }
    | inr e ↦ absurd (let q : false ≡ true = sym (never run.bytes) ∙ e.2 in cc)
  ]

pub made_only : (text : List ℕ) (old new : Streams) → HasMade text old new Done → WroteOnly old new text
made_only text old new made = record {
  lost = made.lost;
  gained = subst (Appends old.held new.held) made.makes.0 made.gained;
  noted = subst (Notes old.noted new.noted old.note_faults new.note_faults) made.makes.1 made.noted;
}
