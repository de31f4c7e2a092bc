use Rattle.std.proofs.Common.{◌++◌, inl, inr, refl, subst, Bool, Option, None, Some}
use Rattle.capture_actions.specs.Listing.{listing}
use Rattle.recovery_listing.specs.Listing.{ending}
use Rattle.recovery_listing.specs.Near.{listed_with}
use Rattle.capture_run.specs.Actions.{going_on, showing}
use Rattle.capture_run.specs.Run.{HasRun, nothing}
use Rattle.capture_run.specs.declared.status.Status.TheVariants.{Done, Recovered}
use Rattle.capture_run.proofs.Tasks.{all_of, over_all, up_to}
use Rattle.capture_run.proofs.task_laws.show_law.Goals as goal

pub returns-clause-done : goal.returns-clause-done
returns-clause-done c = λ p limit old new run.
    all_of (showing None p) (listing p) (λ b. refl) limit old new nothing (λ b. refl) run

pub returns-clause-fault : goal.returns-clause-fault
returns-clause-fault c = λ p limit old new run.
    up_to (showing None p) (listing p) (λ b. refl) limit old new (λ b. refl) run

pub returns-clause-over : goal.returns-clause-over
returns-clause-over c = λ p recover guesses limit old new e d. elim d [
  | inl run ↦
      all_of (showing (Some guesses) p) (λ b. listed_with (going_on p guesses) b ++ ending p b) (λ b. refl) limit old new (nothing) (λ b. refl)
      (subst (λ (o : Option Bool). HasRun (showing o p) limit old new Done) e run)
  | inr run ↦
      over_all (showing (Some guesses) p) (λ b. listed_with (going_on p guesses) b ++ ending p b) (λ b. refl) limit old new (nothing) (λ b. refl) (λ b f. f)
      (subst (λ (o : Option Bool). HasRun (showing o p) limit old new Recovered) e run)
]
