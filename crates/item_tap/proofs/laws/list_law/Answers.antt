use Rattle.item_tap.proofs.Choosing.{of_one, of_more}
use Rattle.item_tap.proofs.laws.list_law.Goals as goal

pub returns-clause-one : goal.returns-clause-one
returns-clause-one c = of_one

pub returns-clause-more : goal.returns-clause-more
returns-clause-more c = of_more
