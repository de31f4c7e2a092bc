use Rattle.decimal_words.proofs.Fronts.{strips}
use Rattle.decimal_words.proofs.prefix.text_after.Goals as goal

pub returns : goal.returns
returns c = strips c.args.front.now c.args.text.now c.strip_prefix.result c.strip_prefix.ensures.cases
