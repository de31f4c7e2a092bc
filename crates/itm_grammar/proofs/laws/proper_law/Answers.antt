use Rattle.itm_grammar.proofs.ShortSpellings.{proper}
use Rattle.itm_grammar.proofs.laws.proper_law.Goals as goal

pub returns : goal.returns
returns c = proper
