use Rattle.std.proofs.Common.{◌≡◌, ◌≤◌, ◌*◌, ℕ, List, take}
use Rattle.frame_grammar.specs.Names.{source_id}
use Rattle.frame_grammar.specs.Frame.{cells_below, id_at}
use Rattle.frame_grammar.specs.SourceBytes.{bytes_of_source}
use Rattle.frame_grammar.proofs.source_bytes.copy_source_bytes.Given as goal

abbrev pub invariant-loop-pair : goal.invariant-loop-pair
invariant-loop-pair l = record {
  len : l.len ≤ 2 * l.pair;
  id : source_id l.id ≡ id_at l.frame l.fn.before (2 * l.pair);
  bytes : (at : List ℕ) → take l.len l.into ≡ bytes_of_source l.fn.source (cells_below l.frame at l.fn.before l.pair);
}
