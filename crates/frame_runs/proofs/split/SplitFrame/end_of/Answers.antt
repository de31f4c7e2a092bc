use Rattle.std.proofs.Common.{arith}
use Rattle.frame_runs.proofs.Cuts.{end_near}
use Rattle.frame_runs.proofs.split.SplitFrame.end_of.Goals as goal

pub returns : goal.returns
returns c =
    let pair = c.args.pair in
    let near = (end_near c.args.self.now.frame.now.bytes pair c.requires.pair).1 in
    let is = c.requires.split.late pair c.requires.pair in
    record { is = is; within = omega (arith, is, near) }
