use Rattle.stp_grammar.proofs.ShortSpellings.{shortest}
use Rattle.stp_grammar.proofs.laws.shortest_law.Goals as goal

pub returns : goal.returns
returns c = shortest
