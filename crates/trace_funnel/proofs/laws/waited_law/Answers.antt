use Rattle.trace_funnel.proofs.Counting.{waited_counts, waited_gave, waited_came}
use Rattle.trace_funnel.proofs.laws.waited_law.Goals as goal

pub returns-clause-counts : goal.returns-clause-counts
returns-clause-counts c = λ hold depth ids done more id h a. waited_counts hold depth ids done a more id h

pub returns-clause-gave : goal.returns-clause-gave
returns-clause-gave c = λ hold depth ids done id a. waited_gave hold depth ids done a id

pub returns-clause-came : goal.returns-clause-came
returns-clause-came c = λ hold depth ids done id byte d a. waited_came hold depth ids done a id byte d
