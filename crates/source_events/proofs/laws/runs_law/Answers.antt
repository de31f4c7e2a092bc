use Rattle.source_events.proofs.RunNumbers.{all_cells, are_whole, ordered}
use Rattle.source_events.proofs.laws.runs_law.Goals as goal

pub returns-clause-cells : goal.returns-clause-cells
returns-clause-cells c = all_cells

pub returns-clause-whole : goal.returns-clause-whole
returns-clause-whole c = λ cells h. are_whole 0 cells (ordered cells h)
