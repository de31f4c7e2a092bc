use Rattle.std.proofs.Common.{sym}
use Rattle.frame_runs.proofs.RunCells.{run_length}
use Rattle.frame_runs.proofs.split.SplitRunRun.len.Goals as goal

pub returns : goal.returns
returns c = sym (run_length c.args.self.now)
