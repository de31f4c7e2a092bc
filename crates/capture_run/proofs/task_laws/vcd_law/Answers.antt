use Rattle.std.proofs.Common.{◌++◌, append-nil, inl, inr, refl, subst, Bool, Option, None, Some}
use Rattle.value_dump.specs.Vcd.{dump, ending}
use Rattle.recovery_listing.specs.Dump as recovering
use Rattle.capture_run.specs.Actions.{going_on, dumping}
use Rattle.capture_run.specs.Run.{HasRun, nothing}
use Rattle.capture_run.specs.declared.status.Status.TheVariants.{Done, Recovered}
use Rattle.capture_run.proofs.Tasks.{all_of, over_all, up_to}
use Rattle.capture_run.proofs.task_laws.vcd_law.Goals as goal

pub returns-clause-done : goal.returns-clause-done
returns-clause-done c = λ p limit old new run.
    all_of (dumping None p) (λ b. dump p b ++ ending p b) (λ b. refl) limit old new nothing (λ b. refl) run

pub returns-clause-fault : goal.returns-clause-fault
returns-clause-fault c = λ p limit old new run.
    up_to (dumping None p) (λ b. dump p b ++ ending p b) (λ b. refl) limit old new (λ b. refl) run

pub returns-clause-over : goal.returns-clause-over
returns-clause-over c = λ p recover guesses limit old new e d. elim d [
  | inl run ↦
      all_of (dumping (Some guesses) p) (λ b. recovering.dump (going_on p guesses) b ++ recovering.ending (going_on p guesses) b) (λ b. refl) limit old new (recovering.noted_dump (going_on p guesses)) (λ b. append-nil (recovering.noted_dump (going_on p guesses) b))
      (subst (λ (o : Option Bool). HasRun (dumping o p) limit old new Done) e run)
  | inr run ↦
      over_all (dumping (Some guesses) p) (λ b. recovering.dump (going_on p guesses) b ++ recovering.ending (going_on p guesses) b) (λ b. refl) limit old new (recovering.noted_dump (going_on p guesses)) (λ b. append-nil (recovering.noted_dump (going_on p guesses) b)) (λ b f. f)
      (subst (λ (o : Option Bool). HasRun (dumping o p) limit old new Recovered) e run)
]
