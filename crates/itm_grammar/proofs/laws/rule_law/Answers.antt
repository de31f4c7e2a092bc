use Rattle.itm_grammar.proofs.Deciding.{decided}
use Rattle.itm_grammar.proofs.laws.rule_law.Goals as goal

pub returns : goal.returns
returns c = decided
