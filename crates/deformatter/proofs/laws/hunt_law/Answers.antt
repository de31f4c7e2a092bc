use Rattle.deformatter.proofs.Readings.{hunt_is}
use Rattle.deformatter.proofs.laws.hunt_law.Goals as goal

pub returns : goal.returns
returns c = λ u. hunt_is u
