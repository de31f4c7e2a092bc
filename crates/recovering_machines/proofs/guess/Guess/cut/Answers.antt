use Rattle.recovering_machines.proofs.Guessing.{cut_near, cut_state}
use Rattle.recovering_machines.proofs.guess.Guess.cut.Goals as goal

pub returns-clause-ends : goal.returns-clause-ends
returns-clause-ends c = λ s r at k f. (
  record { kind_is = f.kind_is; reads_is = f.reads_is; before = tt; state = cut_state s r k at },
  cut_near s r k,
)
