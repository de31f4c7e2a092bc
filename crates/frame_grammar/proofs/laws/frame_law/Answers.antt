use Rattle.frame_grammar.proofs.Items.{frame_bytes, frame_proper, frame_spelling}
use Rattle.frame_grammar.proofs.laws.frame_law.Goals as goal

pub returns : goal.returns
returns c = record { bytes = λ f r h. frame_bytes f r h; proper = λ f r h. frame_proper f r h; spelling = λ f r h. frame_spelling f r h }
