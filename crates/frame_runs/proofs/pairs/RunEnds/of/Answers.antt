use Rattle.std.proofs.Common.{refl}
use Rattle.frame_runs.proofs.Ends.{ends_are}
use Rattle.frame_runs.proofs.pairs.RunEnds.of.Goals as goal

pub returns : goal.returns
returns c = ends_are c.args.frame.now c.named.result _ c.named.ensures refl
