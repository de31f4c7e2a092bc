use Rattle.capture_words.proofs.ChoiceLists.{names_choices}
use Rattle.capture_words.proofs.laws.choices_law.Goals as goal

pub returns : goal.returns
returns c = names_choices
