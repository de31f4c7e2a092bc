use Rattle.capture_words.proofs.IdLists.{names_ids}
use Rattle.capture_words.proofs.laws.ids_law.Goals as goal

pub returns : goal.returns
returns c = names_ids
