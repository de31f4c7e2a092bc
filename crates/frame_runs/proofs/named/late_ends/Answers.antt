use Rattle.frame_runs.proofs.Ends.{late_at}
use Rattle.frame_runs.proofs.named.late_ends.Goals as goal

pub returns : goal.returns
returns c = λ pair l. late_at c.args.frame.now pair l
