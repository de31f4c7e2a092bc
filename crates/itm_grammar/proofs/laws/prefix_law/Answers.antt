use Rattle.trace_values.proofs.Walks as walks
use Rattle.itm_grammar.specs.declared.partial.Partial.TheVariants.{Header}
use Rattle.itm_grammar.specs.Spelling.{Spells, why}
use Rattle.itm_grammar.specs.Rule.{rule}
use Rattle.itm_grammar.proofs.Deciding.{decided}
use Rattle.itm_grammar.proofs.laws.prefix_law.Goals as goal

pub returns : goal.returns
returns c = walks.prefix_law Spells why rule Header decided
