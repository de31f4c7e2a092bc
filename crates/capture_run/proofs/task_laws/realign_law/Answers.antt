use Rattle.std.proofs.Common.{◌++◌, refl}
use Rattle.capture_actions.specs.Realigned.{realign_ending, realign_text}
use Rattle.port_slip.specs.Segments.{realigned}
use Rattle.trace_text.specs.NoteText.{slipped_line}
use Rattle.capture_words.specs.declared.job.Task.TheVariants.{Realign}
use Rattle.capture_run.specs.Actions.{meaning_of}
use Rattle.capture_run.proofs.Tasks.{all_of}
use Rattle.capture_run.proofs.task_laws.realign_law.Goals as goal

pub returns : goal.returns
returns c = λ limit old new run.
    all_of (meaning_of Realign) (λ b. realign_text b ++ realign_ending b) (λ b. refl) limit old new
    (λ b. slipped_line (realigned b).skipped (realigned b).dropped (realigned b).patterns) (λ b. refl) run
