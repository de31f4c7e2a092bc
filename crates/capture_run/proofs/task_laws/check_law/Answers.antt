use Rattle.std.proofs.Common.{ℕ, inl, inr, refl, subst, Bool, true, false, Option, None, Some}
use Rattle.source_events.specs.declared.plan.Plan.{Plan}
use Rattle.capture_actions.specs.Faulty.{IsFaulty}
use Rattle.capture_run.specs.Actions.{checking, last_note}
use Rattle.capture_run.specs.Tasks.{WroteAll, WroteUpTo, checked, checked_over}
use Rattle.capture_run.specs.Run.{HasRun, Streams, nothing}
use Rattle.capture_run.specs.declared.status.Status.TheVariants.{CaptureFault, Done, Recovered}
use Rattle.capture_run.proofs.Tasks.{all_of, over_all, up_to}
use Rattle.capture_run.proofs.task_laws.check_law.Goals as goal

pub returns-clause-done : goal.returns-clause-done
returns-clause-done c = λ plan kinds limit old new run. by plan kinds limit old new run where
  by : (plan : Plan) (kinds : Bool) (limit : ℕ) (old new : Streams) →
      HasRun (checking None kinds plan) limit old new Done → WroteAll old new (checked kinds plan) nothing
  by plan false limit old new run =
      all_of (checking None false plan) (checked false plan) (λ b. refl) limit old new nothing (λ b. refl) run
  by plan true limit old new run =
      all_of (checking None true plan) (checked true plan) (λ b. refl) limit old new nothing (λ b. refl) run

pub returns-clause-fault : goal.returns-clause-fault
returns-clause-fault c = λ plan kinds limit old new run. by plan kinds limit old new run where
  by : (plan : Plan) (kinds : Bool) (limit : ℕ) (old new : Streams) →
      HasRun (checking None kinds plan) limit old new CaptureFault →
      WroteUpTo limit (IsFaulty plan) old new (checked kinds plan) last_note
  by plan false limit old new run =
      up_to (checking None false plan) (checked false plan) (λ b. refl) limit old new (λ b. refl) run
  by plan true limit old new run =
      up_to (checking None true plan) (checked true plan) (λ b. refl) limit old new (λ b. refl) run

pub returns-clause-over : goal.returns-clause-over
returns-clause-over c = λ plan recover guesses kinds limit old new e d. elim d [
  | inl run ↦ all plan guesses kinds limit old new
      (subst (λ (o : Option Bool). HasRun (checking o kinds plan) limit old new Done) e run)
  | inr run ↦ over plan guesses kinds limit old new
      (subst (λ (o : Option Bool). HasRun (checking o kinds plan) limit old new Recovered) e run)
] where
  all : (plan : Plan) (guesses kinds : Bool) (limit : ℕ) (old new : Streams) →
      HasRun (checking (Some guesses) kinds plan) limit old new Done →
      WroteAll old new (checked_over kinds plan) nothing
  all plan guesses false limit old new run =
      all_of (checking (Some guesses) false plan) (checked_over false plan) (λ b. refl) limit old new nothing
      (λ b. refl) run
  all plan guesses true limit old new run =
      all_of (checking (Some guesses) true plan) (checked_over true plan) (λ b. refl) limit old new nothing
      (λ b. refl) run

  over : (plan : Plan) (guesses kinds : Bool) (limit : ℕ) (old new : Streams) →
      HasRun (checking (Some guesses) kinds plan) limit old new Recovered →
      WroteAll old new (checked_over kinds plan) nothing
  over plan guesses false limit old new run =
      over_all (checking (Some guesses) false plan) (checked_over false plan) (λ b. refl) limit old new nothing
      (λ b. refl) (λ b f. f) run
  over plan guesses true limit old new run =
      over_all (checking (Some guesses) true plan) (checked_over true plan) (λ b. refl) limit old new nothing
      (λ b. refl) (λ b f. f) run
