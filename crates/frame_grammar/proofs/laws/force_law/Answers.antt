use Rattle.frame_grammar.proofs.CellLaws.{named_by_last, named_by_none, run_counts}
use Rattle.frame_grammar.proofs.laws.force_law.Goals as goal

pub returns : goal.returns
returns c = record {
  named = λ frame id i k. named_by_last frame id i k;
  before = λ frame id i. named_by_none frame id i;
  run = λ frame i. run_counts frame i;
}
