use Rattle.std.proofs.Common.{◌∙◌, ap, sym, subst, arith}
use Rattle.std.proofs.Math.ListN.{drop_of_length-le}
use Rattle.std.specs.Str.Parse.{AllDigits, digits_value_after}
use Rattle.decimal_words.proofs.Numbers.{next_grows}
use Rattle.decimal_words.proofs.number.digits_value.Goals as goal

pub returns-in_err-tens-clause-none : goal.returns-in_err-tens-clause-none
returns-in_err-tens-clause-none c = λ none all small.
    let grows = next_grows c.loop-digit.value c.loop-digit.digit-index c.args.digits.now c.loop-digit-test.true c.loop-digit.invariant.value in
    let was = c.in_err-tens.was in
    grind (arith, grows, was, c.checked_mul.ensures)

pub returns-in_err-value-clause-none : goal.returns-in_err-value-clause-none
returns-in_err-value-clause-none c = λ none all small.
    let grows = next_grows c.loop-digit.value c.loop-digit.digit-index c.args.digits.now c.loop-digit-test.true c.loop-digit.invariant.value in
    c.in_err-value.ensures (grind (arith, grows, c.in_ok-tens.ensures, c.from.ensures))

pub returns-clause-some : goal.returns-clause-some
returns-clause-some c =
    let left = drop_of_length-le c.args.digits.now {i = c.loop-digit.digit-index} c.loop-digit-test.false in (
      c.loop-digit.invariant.small,
      c.loop-digit.invariant.all (subst (AllDigits 10) (sym left) tt),
      ap (digits_value_after 10 c.loop-digit.value) (sym left) ∙ c.loop-digit.invariant.value,
    )
