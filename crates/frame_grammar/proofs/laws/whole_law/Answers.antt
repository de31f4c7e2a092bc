use Rattle.frame_grammar.proofs.Wholes.{plain_is_whole, whole_size, whole_frame_size, whole_proper}
use Rattle.frame_grammar.proofs.laws.whole_law.Goals as goal

pub returns : goal.returns
returns c = record {
  plain = λ bytes e p. plain_is_whole bytes e p;
  size = λ bytes frame halves w. whole_size bytes frame halves w;
  frame = λ bytes frame halves w. whole_frame_size bytes frame halves w;
  proper = λ bytes frame halves w. whole_proper bytes frame halves w;
}
