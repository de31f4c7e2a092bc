use Rattle.capture_words.proofs.Lines.{fits, tight}
use Rattle.capture_words.proofs.laws.line_law.Goals as goal

pub returns : goal.returns
returns c = record { fits = fits; tight = tight }
