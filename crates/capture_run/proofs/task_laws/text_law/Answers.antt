use Rattle.std.proofs.Common.{append-nil, inl, inr, refl, subst, Bool, Option, None, Some}
use Rattle.capture_actions.specs.PortText.{port_text}
use Rattle.recovery_listing.specs.PortText as recovering
use Rattle.capture_run.specs.Actions.{going_on, texting}
use Rattle.capture_run.specs.Run.{HasRun, nothing}
use Rattle.capture_run.specs.declared.status.Status.TheVariants.{Done, Recovered}
use Rattle.capture_run.proofs.Tasks.{all_of, over_all, up_to}
use Rattle.capture_run.proofs.task_laws.text_law.Goals as goal

pub returns-clause-done : goal.returns-clause-done
returns-clause-done c = λ p limit old new run.
    all_of (texting None p) (port_text p) (λ b. append-nil (port_text p b)) limit old new nothing (λ b. refl) run

pub returns-clause-fault : goal.returns-clause-fault
returns-clause-fault c = λ p limit old new run.
    up_to (texting None p) (port_text p) (λ b. append-nil (port_text p b)) limit old new (λ b. refl) run

pub returns-clause-over : goal.returns-clause-over
returns-clause-over c = λ p recover guesses limit old new e d. elim d [
  | inl run ↦
      all_of (texting (Some guesses) p) (recovering.port_text (going_on p guesses)) (λ b. append-nil (recovering.port_text (going_on p guesses) b)) limit old new (recovering.noted_text (going_on p guesses)) (λ b. append-nil (recovering.noted_text (going_on p guesses) b))
      (subst (λ (o : Option Bool). HasRun (texting o p) limit old new Done) e run)
  | inr run ↦
      over_all (texting (Some guesses) p) (recovering.port_text (going_on p guesses)) (λ b. append-nil (recovering.port_text (going_on p guesses) b)) limit old new (recovering.noted_text (going_on p guesses)) (λ b. append-nil (recovering.noted_text (going_on p guesses) b)) (λ b f. f)
      (subst (λ (o : Option Bool). HasRun (texting o p) limit old new Recovered) e run)
]
