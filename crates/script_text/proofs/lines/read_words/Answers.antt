use Rattle.std.proofs.Common.{arith}
use Rattle.std.proofs.lemmas.Grind.{common_steps}
use Rattle.script_text.specs.Lines.{line_of_words}
use Rattle.script_text.proofs.lines.read_words.Goals as goal

pub returns-in_ok-id-in-len1-up-clause-value : goal.returns-in_ok-id-in-len1-up-clause-value
unfolding line_of_words
returns-in_ok-id-in-len1-up-clause-value c = grind (arith, common_steps)
