use Rattle.frame_runs.proofs.Halfwords.{spread_is}
use Rattle.frame_runs.proofs.data.spread.Goals as goal

pub returns : goal.returns
returns c = spread_is c.args.bits c.requires
