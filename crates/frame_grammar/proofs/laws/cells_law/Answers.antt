use Rattle.frame_grammar.proofs.CellLaws.{cells_are, offsets_are}
use Rattle.frame_grammar.proofs.laws.cells_law.Goals as goal

pub returns : goal.returns
returns c = record { cells = λ frame offsets id. cells_are frame offsets id; offsets = λ frame offsets id. offsets_are frame offsets id }
