use Rattle.resync_rules.specs.Syncing.{SpelledBy}
use Rattle.resync_rules.proofs.Resting.{is_rest}
use Rattle.resync_rules.proofs.Words.{in_words}
use Rattle.resync_rules.proofs.stream_laws.rest_law.Goals as goal

pub returns-clause-words : goal.returns-clause-words
returns-clause-words g c = λ why rule start p v k. in_words (SpelledBy rule start) why rule start p v k

pub returns-clause-rest : goal.returns-clause-rest
returns-clause-rest g c = λ why rule start p v k hunts lost rest e. is_rest (SpelledBy rule start) why rule start p v k hunts lost rest e
