use Rattle.itm_grammar.proofs.Holding.{holds_few}
use Rattle.itm_grammar.proofs.laws.holding_law.Goals as goal

pub returns : goal.returns
returns c = holds_few
