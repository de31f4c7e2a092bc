use Rattle.recovery_listing.proofs.Choosing.{all_listed, some_listed}
use Rattle.recovery_listing.proofs.laws.filter_law.Goals as goal

pub returns-clause-all : goal.returns-clause-all
returns-clause-all c = all_listed

pub returns-clause-some : goal.returns-clause-some
returns-clause-some c = some_listed
