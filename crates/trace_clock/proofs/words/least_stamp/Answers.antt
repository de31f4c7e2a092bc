use Rattle.std.proofs.Common.{◌≡◌, ◌<◌, ◌*◌, ◌/◌, ◌%◌, ◌^◌, false, sym, ◌∙◌, ap, subst, arith}
use Rattle.std.proofs.lemmas.Bool.{eqb-true}
use Rattle.trace_clock.specs.LastWord.{IsLeast}
use Rattle.trace_clock.proofs.LastWords.{IsSame, least_is, greatest_is}
use Rattle.trace_clock.proofs.words.least_stamp.Goals as goal

pub returns-then-has_same_high : goal.returns-then-has_same_high
returns-then-has_same_high c = λ stamps last.
    let n = c.word_nibbles-count.ensures.count in
    let h : c.loop-size.size < 15 = (let t = c.loop-size-test.true in omega (arith, t)) in
    let same = eqb-true _ _ (sym c.has_same_high.ensures ∙ c.if-has_same_high.true) in
    subst (λ w. IsLeast false stamps c.args.target c.loop-size.size w) (ap (λ k. c.args.target % 2 ^ (4 * k)) (sym n) ∙ sym c.low_bits.ensures)
    (least_is stamps c.args.target c.loop-size.size h
    (subst (λ x. IsSame x c.args.target c.loop-size.size) last (subst (λ k. c.args.last / 2 ^ (4 * k) ≡ c.args.target / 2 ^ (4 * k)) n same))
    (λ s l e. c.loop-size.invariant s l (subst (λ x. IsSame x c.args.target s) (sym last) e)))

pub returns : goal.returns
returns c = λ stamps last.
    greatest_is stamps c.args.target (omega arith)
    (λ s h e. c.loop-size.invariant s (let t = c.loop-size-test.false in omega (arith, t, h)) (subst (λ x. IsSame x c.args.target s) (sym last) e))
