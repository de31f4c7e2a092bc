use Rattle.trace_values.proofs.Readings as readings
use Rattle.frame_grammar.specs.Port.{Spells, why, rule, start}
use Rattle.frame_grammar.proofs.Deciding.{port_decided}
use Rattle.frame_grammar.proofs.laws.reading_law.Goals as goal

pub returns : goal.returns
returns c = readings.reading_law Spells why rule start port_decided
