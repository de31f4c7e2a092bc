use Rattle.decimal_words.proofs.Numbers.{decimal_if, read_if, decimal_has}
use Rattle.decimal_words.proofs.number.whole_number.Goals as goal

pub returns-then-has_digits-clause-some : goal.returns-then-has_digits-clause-some
returns-then-has_digits-clause-some c = decimal_if c.args.text.now c.digits_value.result (c.has_digits.ensures.0 c.if-has_digits.true) c.digits_value.ensures.some

pub returns-then-has_digits-clause-none : goal.returns-then-has_digits-clause-none
returns-then-has_digits-clause-none c = λ n small e. read_if c.args.text.now c.digits_value.result n small e c.digits_value.ensures.some c.digits_value.ensures.none

pub returns-else-has_digits-clause-none : goal.returns-else-has_digits-clause-none
returns-else-has_digits-clause-none c = λ n small e.
    let t = c.has_digits.ensures.1 (decimal_has n c.args.text.now small e) in
    let f = c.if-has_digits.false in
    cc
