use Rattle.std.proofs.Common.{Option, ℕ, subst, sym}
use Rattle.frame_runs.specs.Run.{IsRunOf}
use Rattle.frame_runs.specs.Split.{run_in}
use Rattle.frame_runs.proofs.RunCells.{run_own}
use Rattle.frame_runs.proofs.split.SplitRun.source.Goals as goal

pub returns : goal.returns
returns c = subst (λ (id : Option ℕ). IsRunOf id (run_in c.args.self.now)) (sym c.new.ensures) (run_own c.args.self.now)
