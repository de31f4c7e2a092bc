use Rattle.std.proofs.Common.{◌∙◌, ap}
use Rattle.frame_grammar.specs.Port.{half_words}
use Rattle.frame_grammar.specs.Reading.{port_reading}
use Rattle.frame_grammar.proofs.Items.{frame_halves, unfinished_halves}
use Rattle.frame_grammar.proofs.Broken.{broken_halves, same_before}
use Rattle.frame_grammar.proofs.laws.halves_law.Goals as goal

pub returns : goal.returns
returns c = record {
  frame = λ f r h. frame_halves f r h;
  unfinished = λ u. unfinished_halves u;
  broken = λ u fault b e. (let k = broken_halves u fault e in k.halves ∙ ap half_words (same_before (port_reading u).rest fault fault k.broken b));
}
