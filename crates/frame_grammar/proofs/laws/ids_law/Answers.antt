use Rattle.frame_grammar.proofs.CellLaws.{one_id, id_before}
use Rattle.frame_grammar.proofs.laws.ids_law.Goals as goal

pub returns : goal.returns
returns c = record {
  one_id = λ frame offsets id x y. one_id frame offsets id x y;
  before = λ frame offsets id x. id_before frame offsets id x;
}
