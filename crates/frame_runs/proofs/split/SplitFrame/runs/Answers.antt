use Rattle.std.proofs.Common.{arith, refl}
use Rattle.frame_runs.proofs.Cuts.{all_left}
use Rattle.frame_runs.proofs.split.SplitFrame.runs.Goals as goal

pub returns-clause-left : goal.returns-clause-left
returns-clause-left c =
    record { pair = 0; last = omega arith; ends = c.requires.ends; run = omega arith; from = omega arith }

pub returns-clause-all : goal.returns-clause-all
returns-clause-all c = all_left c.args.self.now c.requires _ c.number_of.ensures refl refl
