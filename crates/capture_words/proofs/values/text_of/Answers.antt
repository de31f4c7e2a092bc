use Rattle.std.proofs.Common.{◌∙◌, ap}
use Rattle.clap.specs.Words.{rows_of, found_of, first_of}
use Rattle.capture_words.proofs.values.text_of.Goals as goal

pub returns : goal.returns
returns c = c.text_named.ensures ∙ ap (λ n. first_of n (rows_of (found_of c.args.matches.now))) c.name.ensures.name
