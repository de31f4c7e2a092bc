use Rattle.deformatter.proofs.ReadingLaws.{rises}
use Rattle.deformatter.proofs.laws.rising_law.Goals as goal

pub returns : goal.returns
returns c = λ h u at byte. rises h u at byte
