use Rattle.capture_words.proofs.Windows.{names_window}
use Rattle.capture_words.proofs.laws.window_law.Goals as goal

pub returns : goal.returns
returns c = names_window
