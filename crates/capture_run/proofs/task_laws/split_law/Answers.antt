use Rattle.std.proofs.Common.{append-nil, refl}
use Rattle.capture_actions.specs.Names.{cells_of}
use Rattle.capture_actions.specs.Port.{port_of}
use Rattle.capture_actions.specs.Split.{bytes_of_id}
use Rattle.capture_words.specs.declared.job.Task.TheVariants.{Split}
use Rattle.capture_run.specs.Actions.{meaning_of}
use Rattle.capture_run.specs.Run.{nothing}
use Rattle.capture_run.proofs.Tasks.{all_of, up_to}
use Rattle.capture_run.proofs.task_laws.split_law.Goals as goal

pub returns-clause-done : goal.returns-clause-done
returns-clause-done c = λ p limit old new run.
    all_of (meaning_of (Split p.frames p.id)) (λ b. bytes_of_id p.id (cells_of (port_of p.frames b)))
    (λ b. append-nil (bytes_of_id p.id (cells_of (port_of p.frames b)))) limit old new nothing (λ b. refl) run

pub returns-clause-fault : goal.returns-clause-fault
returns-clause-fault c = λ p limit old new run.
    up_to (meaning_of (Split p.frames p.id)) (λ b. bytes_of_id p.id (cells_of (port_of p.frames b)))
    (λ b. append-nil (bytes_of_id p.id (cells_of (port_of p.frames b)))) limit old new (λ b. refl) run
