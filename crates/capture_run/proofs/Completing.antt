-- How a run ends where nothing outside fails.
use Rattle.std.proofs.Common.{◌≡◌, ◌⊎◌, ◌<◌, ◌≤◌, List, ℕ, take, refl, sym, ◌∙◌, ap, subst, inl, inr, length, arith}
use Rattle.std.proofs.Common.{true, false}
use Rattle.std.proofs.lemmas.List.{take_all}
use Rattle.std.specs.Prelude.{codes}
use Rattle.capture_words.specs.declared.job.Task.{Task}
use Rattle.capture_words.specs.declared.job.Task.TheVariants as tasks
use Rattle.capture_words.specs.declared.recover.Recover.TheVariants.{Off}
use Rattle.capture_run.specs.Actions.{HasDone, IsSoundInput, limit_of, meaning_of}
use Rattle.trace_stream.specs.Told.{Notes}
use Rattle.capture_run.specs.Recovers.{GoesOn, IsRecovered}
use Rattle.capture_run.specs.Run.{HasMade, HasRun, Loses, Streams, TaskMeaning, IsDoneOrNoMemory, Stops, EndsLate}
use Rattle.capture_run.specs.declared.status.Status.{Status}
use Rattle.capture_run.specs.declared.status.Status.TheVariants.{Done, Usage, CaptureFault, ReadFault, WriteFault}
use Rattle.capture_run.specs.declared.status.Status.TheVariants.{NoMemory, ScriptFault, Limit, Recovered, BadImage}
use Rattle.capture_run.proofs.EachTask.{Kind, kind_of}
use Rattle.capture_run.proofs.Running.{same_lost}

module _ (m : TaskMeaning) (limit : ℕ) (old new : Streams) (bytes : List ℕ) (lost : Loses old.left new.left bytes)
    (within : length bytes ≤ limit) where
  never_over : (status : Status) (run : HasRun m limit old new status) → limit < length run.bytes → ⊥
  never_over status run over =
      let same = same_lost old.left new.left run.bytes bytes run.lost lost in
      omega (arith, ap length same, over, within)

  module _ (sound : m.action.faulty bytes → ⊥) (not_late : m.late bytes ≡ false) where
    no_fault : (status : Status) (run : HasRun m limit old new status) →
        Stops m limit new.left run.bytes run.out run.note ⊎ EndsLate m limit new.left run.bytes run.out run.note → ⊥
    no_fault status run (inl stops) =
        let same = same_lost old.left new.left run.bytes bytes run.lost lost in
        sound (subst m.action.faulty (ap (take limit) same ∙ take_all limit bytes within) stops.1.0.broken)
    no_fault status run (inr late) =
        let same = same_lost old.left new.left run.bytes bytes run.lost lost in
        let is : true ≡ false = sym late.2 ∙ ap m.late same ∙ not_late in
        cc

    -- bytes without a fault
    completes : (status : Status) → HasRun m limit old new status → (status ≡ ReadFault → ⊥) →
        (status ≡ WriteFault → ⊥) → IsDoneOrNoMemory status
    completes Done run no_read no_write = inl refl
    completes NoMemory run no_read no_write = inr refl
    completes Usage run no_read no_write = absurd run.writes
    completes CaptureFault run no_read no_write = absurd (no_fault CaptureFault run run.writes.1)
    completes ScriptFault run no_read no_write = absurd (no_fault ScriptFault run run.writes.1)
    completes Recovered run no_read no_write = absurd (no_fault Recovered run run.writes.1)
    completes BadImage run no_read no_write = elim run.writes.1 [
      | inl late ↦ absurd (no_fault BadImage run (inr late))
      | inr over ↦ absurd (never_over BadImage run over.0.1)
    ]
    completes ReadFault run no_read no_write = absurd (no_read refl)
    completes WriteFault run no_read no_write = absurd (no_write refl)
    completes Limit run no_read no_write = absurd (never_over Limit run run.writes.1.1)

  -- where reading goes on after each fault
  module _ (ends : m.fault_status ≡ Recovered) (exact : m.exact ≡ false) where
    recovers : (status : Status) → HasRun m limit old new status → (status ≡ ReadFault → ⊥) →
        (status ≡ WriteFault → ⊥) → IsRecovered status
    recovers Done run no_read no_write = inl refl
    recovers Recovered run no_read no_write = inr (inl refl)
    recovers NoMemory run no_read no_write = inr (inr refl)
    recovers Usage run no_read no_write = absurd run.writes
    recovers CaptureFault run no_read no_write = (let k : Recovered ≡ CaptureFault = sym ends ∙ run.writes.0 in cc)
    recovers ScriptFault run no_read no_write = (let k : Recovered ≡ ScriptFault = sym ends ∙ run.writes.0 in cc)
    recovers BadImage run no_read no_write = (let k : true ≡ false = sym run.writes.0 ∙ exact in cc)
    recovers ReadFault run no_read no_write = absurd (no_read refl)
    recovers WriteFault run no_read no_write = absurd (no_write refl)
    recovers Limit run no_read no_write = absurd (never_over Limit run run.writes.1.1)

-- what reads nothing
makes : (text : List ℕ) (old new : Streams) (status : Status) → HasMade text old new status →
    (status ≡ WriteFault → ⊥) → IsDoneOrNoMemory status
makes text old new Done run no_write = inl refl
makes text old new NoMemory run no_write = inr refl
makes text old new WriteFault run no_write = absurd (no_write refl)
makes text old new status run no_write = absurd run.makes

-- the same note
said : (old new : Streams) (note : List ℕ) → note ≡ codes "no memory\n" →
    Notes old.noted new.noted old.note_faults new.note_faults note →
    Notes old.noted new.noted old.note_faults new.note_faults (codes "no memory\n")
said old new note is noted = subst (Notes old.noted new.noted old.note_faults new.note_faults) is noted

-- what goes on is noted so at a fault, and reads as many bytes as the words allow
recovering : (task : Task) → GoesOn task → ((meaning_of task).fault_status ≡ Recovered)
    × ((meaning_of task).exact ≡ false) × ((limit : ℕ) → limit_of task limit ≡ limit)
recovering (tasks.Show plan only window Off) on = absurd (on refl)
recovering (tasks.Show plan only window recover) on = (refl, refl, λ limit. refl)
recovering (tasks.Check plan Off kinds) on = absurd (on refl)
recovering (tasks.Check plan recover false) on = (refl, refl, λ limit. refl)
recovering (tasks.Check plan recover true) on = (refl, refl, λ limit. refl)
recovering (tasks.Text plan port Off) on = absurd (on refl)
recovering (tasks.Text plan port recover) on = (refl, refl, λ limit. refl)
recovering (tasks.Vcd plan hz Off) on = absurd (on refl)
recovering (tasks.Vcd plan hz recover) on = (refl, refl, λ limit. refl)
recovering task on = absurd on

module _ (task : Task) (limit : ℕ) (old new : Streams) (status : Status) (run : HasDone task limit old new status)
  where
    pub complete : (bytes : List ℕ) → Loses old.left new.left bytes → length bytes ≤ limit_of task limit →
        IsSoundInput task bytes → (status ≡ ReadFault → ⊥) → (status ≡ WriteFault → ⊥) → IsDoneOrNoMemory status
    complete bytes lost within is no_read no_write = by (kind_of task)
      where
        by : Kind task → IsDoneOrNoMemory status
        by (inl reads) =
            completes (meaning_of task) (limit_of task limit) old new bytes lost within is.sound is.not_late status
            (reads.run limit old new status run) no_read no_write
        by (inr e) = makes e.text old new status (e.run limit old new status run) no_write

    pub goes_on : (bytes : List ℕ) → GoesOn task → Loses old.left new.left bytes → length bytes ≤ limit →
        (status ≡ ReadFault → ⊥) → (status ≡ WriteFault → ⊥) → IsRecovered status
    goes_on bytes on lost within no_read no_write = by (kind_of task)
      where
        is : ((meaning_of task).fault_status ≡ Recovered) × ((meaning_of task).exact ≡ false)
            × ((l : ℕ) → limit_of task l ≡ l)
        is = recovering task on

        by : Kind task → IsRecovered status
        by (inl reads) =
            recovers (meaning_of task) (limit_of task limit) old new bytes lost
            (subst (λ (l : ℕ). length bytes ≤ l) (sym (is.2 limit)) within) is.0 is.1 status
            (reads.run limit old new status run) no_read no_write
        by (inr e) = absurd (e.stops on)

    -- want of memory is noted
    pub noted : status ≡ NoMemory →
        Notes old.noted new.noted old.note_faults new.note_faults (codes "no memory\n")
    noted none = by (kind_of task)
      where
        by : Kind task → Notes old.noted new.noted old.note_faults new.note_faults (codes "no memory\n")
        by (inl reads) =
            let r = subst (HasRun (meaning_of task) (limit_of task limit) old new) none
            (reads.run limit old new status run) in
            said old new r.note r.writes.2 r.noted
        by (inr e) =
            let r = subst (HasMade e.text old new) none (e.run limit old new status run) in
            said old new r.note r.makes.1 r.noted
