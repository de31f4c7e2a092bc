use Rattle.stp_codec.proofs.Answering.{hunt_is}
use Rattle.stp_codec.proofs.laws.hunt_law.Goals as goal

pub returns : goal.returns
returns c = λ order n. hunt_is order n
