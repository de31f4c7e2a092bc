use Rattle.capture_run.proofs.Exercising.{reads_whole, rest_sound, rest_counted}
use Rattle.capture_run.proofs.laws.exercise_law.Goals as goal

pub returns-clause-whole : goal.returns-clause-whole
returns-clause-whole c = reads_whole

pub returns-clause-rest : goal.returns-clause-rest
returns-clause-rest c = rest_sound

pub returns-clause-counts : goal.returns-clause-counts
returns-clause-counts c = rest_counted
