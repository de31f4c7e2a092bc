use Rattle.deformatter.proofs.PortReadingLaws.{settles}
use Rattle.deformatter.proofs.reading_laws.settled_law.Goals as goal

pub returns : goal.returns
returns c = λ mode u w e. settles mode u w e
