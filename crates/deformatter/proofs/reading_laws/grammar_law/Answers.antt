use Rattle.std.specs.Prelude.{refl, false, None}
use Rattle.deformatter.specs.Reading.{port_stream, items_of}
use Rattle.deformatter.proofs.Grammar.{frames_counted, aligned_cells}
use Rattle.deformatter.proofs.reading_laws.grammar_law.Goals as goal

pub returns : goal.returns
returns c = record {
  cells = λ u. aligned_cells u;
  fulls = λ u. refl;
  halves = λ u. refl;
  frames = λ u. frames_counted None (items_of (port_stream false u).items);
  fault = λ u. refl;
  tail = λ u. refl;
}
