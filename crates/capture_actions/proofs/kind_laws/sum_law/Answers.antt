use Rattle.capture_actions.proofs.Kinded.{sum_of_kinds}
use Rattle.capture_actions.proofs.kind_laws.sum_law.Goals as goal

pub returns : goal.returns
returns c = λ es source. sum_of_kinds source es
