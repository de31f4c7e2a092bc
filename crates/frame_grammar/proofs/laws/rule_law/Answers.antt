use Rattle.frame_grammar.proofs.Deciding.{port_decided}
use Rattle.frame_grammar.proofs.laws.rule_law.Goals as goal

pub returns : goal.returns
returns c = port_decided
