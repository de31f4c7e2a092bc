use Rattle.script_text.specs.Words.{texts}
use Rattle.script_text.proofs.LineRanges.{words_said_on}
use Rattle.script_text.proofs.lines.read_printable.Goals as goal

pub returns-clause-said : goal.returns-clause-said
returns-clause-said c = words_said_on c.args.plan.now (texts c.as_slice.result.now) c.read_words.result c.read_words.new.said c.read_words.ensures.value
