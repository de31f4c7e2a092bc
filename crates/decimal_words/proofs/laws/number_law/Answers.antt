use Rattle.decimal_words.proofs.Numbers.{names_number, number_is}
use Rattle.decimal_words.proofs.laws.number_law.Goals as goal

pub returns : goal.returns
returns c = λ least greatest n text small. (number_is least greatest n text, λ facts. names_number least greatest n text small facts.0 facts.1 facts.2)
