use Rattle.frame_grammar.proofs.CellLaws.{few_cells}
use Rattle.frame_grammar.proofs.laws.length_law.Goals as goal

pub returns : goal.returns
returns c = λ frame offsets id. few_cells frame offsets id
