use Rattle.std.proofs.Common.{◌∙◌, sym}
use Rattle.clap.specs.Words.{rows_of, found_of}
use Rattle.capture_words.proofs.Sound.{sound}
use Rattle.capture_words.proofs.reading.read_words.Goals as goal

pub returns-in-Ok-job_of-clause-limit : goal.returns-in-Ok-job_of-clause-limit
returns-in-Ok-job_of-clause-limit c = λ job e.
    let rows = rows_of (found_of c.in-Ok-entries_of.matches) in
    (sound rows c.in-Ok-job_of.job job (sym c.job_of.ensures ∙ c.in-Ok-job_of.is) e).0

pub returns-in-Ok-job_of-clause-sound : goal.returns-in-Ok-job_of-clause-sound
returns-in-Ok-job_of-clause-sound c = λ job e.
    let rows = rows_of (found_of c.in-Ok-entries_of.matches) in
    (sound rows c.in-Ok-job_of.job job (sym c.job_of.ensures ∙ c.in-Ok-job_of.is) e).1
