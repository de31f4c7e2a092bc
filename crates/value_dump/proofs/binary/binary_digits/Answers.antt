use Rattle.std.proofs.Common.{◌≡◌, ◌∙◌, ◌-◌, ◌/◌, ap, ℕ, sym, length, drop, false, arith, rules}
use Rattle.std.proofs.DigitsParse.{digits_onto_last, digits_onto_step, drop-set-cons, digit_glyph_below_ten}
use Rattle.std.proofs.lemmas.List.{length-set}
use Rattle.std.specs.Fmt.{digits_onto}
use Rattle.value_dump.proofs.BinaryDigits.{at_first}
use Rattle.value_dump.proofs.binary.binary_digits.Goals as goal

pub loop-start-init : goal.loop-start-init
loop-start-init c =
    let size : length c.args.out.now ≡ 32 = search rules in
    (omega arith, size, at_first c.args.value c.args.out.now size)

pub loop-start-preserved : goal.loop-start-preserved
loop-start-preserved c =
    let l = c.loop-start in
    let size = length-set l.out (l.start - 1) _ ∙ l.invariant.1 in
    let written =
    ap (digits_onto (l.start - 1) 2 false (l.rest / 2))
    (drop-set-cons l.out l.start _ _ c.loop-start-test.true (omega (arith, l.invariant.0, l.invariant.1))
    (digit_glyph_below_ten false _ _ (omega arith) (omega arith))) in (
      omega (arith, l.invariant.0),
      size,
      written
          ∙ sym (digits_onto_step 2 false l.rest (drop l.start l.out) l.start c.loop-start-test.true
          c.if-rest-eq0.false)
          ∙ l.invariant.2,
    )

pub returns-after-loop-start-clause-digits : goal.returns-after-loop-start-clause-digits
returns-after-loop-start-clause-digits c =
    let l = c.loop-start in
    let none : l.start ≡ 0 = (let h = c.loop-start-test.false in omega arith) in
    sym (ap (λ (k : ℕ). digits_onto k 2 false l.rest (drop l.start l.out)) none) ∙ l.invariant.2

pub returns-then-rest-eq0-clause-digits : goal.returns-then-rest-eq0-clause-digits
returns-then-rest-eq0-clause-digits c =
    let l = c.loop-start in
    drop-set-cons l.out l.start _ _ c.loop-start-test.true (omega (arith, l.invariant.0, l.invariant.1))
    (digit_glyph_below_ten false _ _ (omega arith) (omega arith))
    ∙ sym (digits_onto_last 2 false l.rest (drop l.start l.out) l.start c.loop-start-test.true c.if-rest-eq0.true)
    ∙ l.invariant.2
