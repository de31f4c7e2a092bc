use Rattle.capture_actions.proofs.Kinded.{begins, no_word_no_item, word_of_item}
use Rattle.capture_actions.proofs.kind_laws.word_law.Goals as goal

pub returns-clause-first : goal.returns-clause-first
returns-clause-first c = begins

pub returns-clause-none : goal.returns-clause-none
returns-clause-none c = no_word_no_item

pub returns-clause-some : goal.returns-clause-some
returns-clause-some c = word_of_item
