use Rattle.std.proofs.Common.{◌++◌, refl}
use Rattle.script_rebuild.specs.Rebuilt.{ending, text}
use Rattle.capture_run.specs.Actions.{rebuilding}
use Rattle.capture_run.specs.Rebuilds.{funnelled, straight}
use Rattle.capture_run.specs.Run.{nothing}
use Rattle.capture_run.proofs.Tasks.{all_of}
use Rattle.capture_run.proofs.task_laws.rebuild_law.Goals as goal

pub returns-clause-straight : goal.returns-clause-straight
returns-clause-straight c = λ plan sync half limit old new run.
    let p = straight plan sync half in
    all_of (rebuilding p) (λ b. text p b ++ ending p b) (λ b. refl) limit old new nothing (λ b. refl) run

pub returns-clause-funnelled : goal.returns-clause-funnelled
returns-clause-funnelled c = λ plan sync half turns limit old new run.
    let p = funnelled plan sync half turns in
    all_of (rebuilding p) (λ b. text p b ++ ending p b) (λ b. refl) limit old new nothing (λ b. refl) run
