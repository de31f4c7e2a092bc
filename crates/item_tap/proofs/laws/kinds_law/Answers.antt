use Rattle.item_tap.proofs.Choosing.{has_kind}
use Rattle.item_tap.proofs.laws.kinds_law.Goals as goal

pub returns-clause-some : goal.returns-clause-some
returns-clause-some c = has_kind
