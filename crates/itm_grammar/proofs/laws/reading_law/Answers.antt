use Rattle.itm_grammar.specs.Names.{units_of, InUnits, by_unit}
use Rattle.trace_values.proofs.Placing as placing
use Rattle.trace_values.proofs.Readings as readings
use Rattle.itm_grammar.specs.declared.partial.Partial.TheVariants.{Header}
use Rattle.itm_grammar.specs.Spelling.{Spells, why}
use Rattle.itm_grammar.specs.Rule.{rule}
use Rattle.itm_grammar.proofs.Deciding.{decided}
use Rattle.itm_grammar.proofs.laws.reading_law.Goals as goal

pub returns : goal.returns
returns c = readings.reading_law (InUnits Spells) (λ r. why (units_of r)) (by_unit rule) Header (placing.on_units rule Spells why Header decided)
