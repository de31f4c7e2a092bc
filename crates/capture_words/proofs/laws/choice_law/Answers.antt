use Rattle.capture_words.proofs.Chosen.{names}
use Rattle.capture_words.proofs.laws.choice_law.Goals as goal

pub returns : goal.returns
returns c = names
