use Rattle.deformatter.proofs.Grammar.{reading_law}
use Rattle.deformatter.proofs.reading_laws.reading_law.Goals as goal

pub returns : goal.returns
returns c = reading_law
