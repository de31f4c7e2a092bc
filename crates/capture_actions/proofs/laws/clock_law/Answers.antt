use Rattle.capture_actions.proofs.Few.{clock_below, clock_sum}
use Rattle.capture_actions.proofs.laws.clock_law.Goals as goal

pub returns-clause-below : goal.returns-clause-below
returns-clause-below c = clock_below

pub returns-clause-clock : goal.returns-clause-clock
returns-clause-clock c = clock_sum
