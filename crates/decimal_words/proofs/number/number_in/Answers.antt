use Rattle.std.proofs.Common.{sym, arith}
use Rattle.decimal_words.proofs.Numbers.{names_number}
use Rattle.decimal_words.proofs.number.number_in.Goals as goal

pub returns-in-Some-clause-value : goal.returns-in-Some-clause-value
returns-in-Some-clause-value c =
    sym (names_number c.args.least c.args.greatest c.in-Some.number c.args.text.now (omega arith) c.if-least-number.true c.if-number-greatest.true c.in-Some.ensures.some)
