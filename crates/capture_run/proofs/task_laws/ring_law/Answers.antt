use Rattle.std.proofs.Common.{◌++◌, refl}
use Rattle.buffer_ring.specs.Image.{dropped, is_full, pointer}
use Rattle.capture_actions.specs.Ring.{ring_meaning}
use Rattle.capture_actions.specs.Unring.{in_order}
use Rattle.trace_text.specs.NoteText.{buffer_line}
use Rattle.capture_words.specs.declared.job.Task.TheVariants.{Ring, Unring}
use Rattle.capture_run.specs.Actions.{meaning_of}
use Rattle.capture_run.specs.Run.{nothing}
use Rattle.capture_run.proofs.Tasks.{all_of}
use Rattle.capture_run.proofs.task_laws.ring_law.Goals as goal

pub returns-clause-ring : goal.returns-clause-ring
returns-clause-ring c = λ size limit old new run.
    all_of (meaning_of (Ring size)) (λ b. (ring_meaning size).text b ++ (ring_meaning size).ending b) (λ b. refl) limit
    old new (λ b. buffer_line (pointer size b) (is_full size b) (dropped size b)) (λ b. refl) run

pub returns-clause-unring : goal.returns-clause-unring
returns-clause-unring c = λ p limit old new run.
    all_of (meaning_of (Unring p.size p.pointer p.full)) (in_order p) (λ b. refl) p.size old new nothing (λ b. refl) run
