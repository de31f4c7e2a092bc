use Rattle.deformatter.proofs.ReadingLaws.{settles}
use Rattle.deformatter.proofs.laws.settled_law.Goals as goal

pub returns : goal.returns
returns c = λ h u w e. settles h u w e
