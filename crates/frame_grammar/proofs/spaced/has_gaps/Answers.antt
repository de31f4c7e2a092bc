use Rattle.std.proofs.Common.{◌+◌, ◌*◌, ◌≡◌, ℕ, get_or, arith, sym, ◌∙◌, ap}
use Rattle.frame_grammar.proofs.Spacing.{chunk_at}
use Rattle.frame_grammar.proofs.spaced.has_gaps.Goals as goal

pub returns-in-Some-clause-gaps : goal.returns-in-Some-clause-gaps
returns-in-Some-clause-gaps c = λ t k l.
    let p = c.args.piece.now in
    let from = c.args.from in
    let g = c.is_spaced_word.ensures.gaps t k l in
    let f = c.in-Some.ensures.cases in (
      (ap (λ (i : ℕ). get_or p i 0) (let e : from + 4 * k + 2 ≡ from + (4 * k + 2) = omega arith in e) ∙ sym (chunk_at p c.in-Some.word.now from (4 * k + 2) f (omega arith)) ∙ g.0),
      (ap (λ (i : ℕ). get_or p i 0) (let e : from + 4 * k + 3 ≡ from + (4 * k + 3) = omega arith in e) ∙ sym (chunk_at p c.in-Some.word.now from (4 * k + 3) f (omega arith)) ∙ g.1),
    )

pub returns-in-Some-clause-words : goal.returns-in-Some-clause-words
returns-in-Some-clause-words c = λ t k l e.
    c.is_spaced_word.ensures.words t k l
    (chunk_at c.args.piece.now c.in-Some.word.now c.args.from (4 * k) c.in-Some.ensures.cases (omega arith) ∙ e)
