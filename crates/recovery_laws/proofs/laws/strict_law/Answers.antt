use Rattle.recovery_laws.proofs.Captures.{before}
use Rattle.recovery_laws.proofs.Ends.{ends}
use Rattle.recovery_laws.proofs.laws.strict_law.Goals as goal

pub returns-clause-before : goal.returns-clause-before
returns-clause-before c = λ plan n k u sound rise. before plan sound n k u rise

pub returns-clause-ends : goal.returns-clause-ends
returns-clause-ends c = λ plan n k u sound rise stop. ends plan sound n k u rise stop
