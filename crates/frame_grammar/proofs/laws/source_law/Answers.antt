use Rattle.frame_grammar.proofs.SourceBytes.{list_append, units_append, units_bytes, units_offsets}
use Rattle.frame_grammar.proofs.laws.source_law.Goals as goal

pub returns : goal.returns
returns c = record {
  cells = λ id a b. list_append id a b;
  units = λ id a b. units_append id a b;
  bytes = λ id cells. units_bytes id cells;
  offsets = λ id cells. units_offsets id cells;
}
