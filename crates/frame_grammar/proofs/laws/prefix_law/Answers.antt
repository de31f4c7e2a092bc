use Rattle.trace_values.proofs.Walks as walks
use Rattle.frame_grammar.specs.Port.{Spells, why, rule, start}
use Rattle.frame_grammar.proofs.Deciding.{port_decided}
use Rattle.frame_grammar.proofs.laws.prefix_law.Goals as goal

pub returns : goal.returns
returns c = walks.prefix_law Spells why rule start port_decided
