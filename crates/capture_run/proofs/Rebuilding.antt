-- What `rebuild` or `funnel` wrote is the capture of its script, and reads back.
use Rattle.std.proofs.Common.{◌≡◌, ◌≤◌, ℕ, List, ◌++◌, true, false, Option, None, Some, ap, sym, ◌∙◌, subst, refl}
use Rattle.std.specs.Prelude.{is_some}
use Rattle.std.specs.Io.KnownBytes.{Appends}
use Rattle.script_laws.proofs.Ported.{script_reads}
use Rattle.script_laws.specs.ReadBack.{rebuilt, IsFair, ReadsAsGiven}
use Rattle.script_rebuild.proofs.Whole.{text_and_ending}
use Rattle.script_rebuild.specs.Rebuilt.{text, ending, routed_script}
use Rattle.script_rebuild.specs.RoutedLaws.{all_placed}
use Rattle.script_rebuild.specs.Versions.{script_of}
use Rattle.script_rebuild.specs.declared.plan.RebuildPlan.{RebuildPlan}
use Rattle.script_text.specs.declared.version_two.Line2.{Line2}
use Rattle.source_events.specs.Plan.{is_sound}
use Rattle.capture_words.specs.Jobs.{IsSoundTask}
use Rattle.capture_words.specs.declared.job.Task.{Task}
use Rattle.capture_words.specs.declared.job.Task.TheVariants.{Rebuild, Funnel}
use Rattle.capture_run.specs.Actions.{rebuilding, HasDone}
use Rattle.capture_run.specs.Rebuilds.{Rebuilds, Writes, straight, funnelled}
use Rattle.capture_run.specs.Run.{HasRun, Streams, Loses}
use Rattle.capture_run.specs.declared.status.Status.{Status}
use Rattle.capture_run.specs.declared.status.Status.TheVariants.{Done}
use Rattle.capture_run.proofs.Running.{same_lost}

none_is : {T : Type 0} (o : Option T) → is_some o ≡ false → o ≡ None
none_is None h = refl
none_is (Some x) h = cc

module _ (limit : ℕ) (old new : Streams) (script : List ℕ) (loses : Loses old.left new.left script) where
  rebuilds : (p : RebuildPlan) → is_sound p.plan ≡ true → p.halves ≤ 8 → IsFair p.funnel →
      HasRun (rebuilding p) limit old new Done → Rebuilds p script old.held new.held
  rebuilds p sound few fair run =
      let same = same_lost old.left new.left run.bytes script run.lost loses in
      let late = ap (λ b. is_some (routed_script p b).fault) (sym same) ∙ run.writes.2 in
      let no_fault = none_is (routed_script p script).fault late in
      let all = (all_placed p.funnel (script_of p.plan script) no_fault).same in
      record {
        no_fault = no_fault;
        written = subst (Appends old.held new.held)
            (run.writes.0.2 ∙ ap (λ b. text p b ++ ending p b) same ∙ text_and_ending p script few no_fault) run.gained;
        reads = subst (λ (l : List Line2). ReadsAsGiven p.plan l (rebuilt p l)) all (script_reads p script sound fair);
      }

  by_task : (task : Task) (p : RebuildPlan) → IsSoundTask task → HasDone task limit old new Done → Writes p task →
      Rebuilds p script old.held new.held
  by_task (Rebuild plan sync half) p sound run is =
      subst (λ (q : RebuildPlan). Rebuilds q script old.held new.held) is
      (rebuilds (straight plan sync half) sound.0 sound.1 tt run)
  by_task (Funnel plan sync half turns) p sound run is =
      subst (λ (q : RebuildPlan). Rebuilds q script old.held new.held) is
      (rebuilds (funnelled plan sync half turns) sound.0 sound.1 (sound.2.2, sound.2.1) run)
  by_task task p sound run is = absurd is

  pub rebuilds_script : (task : Task) (p : RebuildPlan) (status : Status) → IsSoundTask task →
      HasDone task limit old new status → Writes p task → status ≡ Done → Rebuilds p script old.held new.held
  rebuilds_script task p status sound run is done =
      by_task task p sound (subst (HasDone task limit old new) done run) is
