use Rattle.frame_grammar.proofs.Runs.{cells_have_runs}
use Rattle.frame_grammar.proofs.laws.runs_law.Goals as goal

pub returns : goal.returns
returns c = λ frame offsets id. cells_have_runs frame offsets id
