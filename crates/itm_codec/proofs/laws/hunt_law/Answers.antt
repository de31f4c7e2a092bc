use Rattle.itm_codec.proofs.Answering.{hunt_is}
use Rattle.itm_codec.proofs.laws.hunt_law.Goals as goal

pub returns : goal.returns
returns c = λ u. hunt_is u
