use Rattle.std.proofs.Common.{◌≡◌, ℕ, [], Option, None, sym, ◌∙◌, ap, arith, length, subst}
use Rattle.frame_writer.specs.Writer.{later_of}
use Rattle.frame_writer.specs.Unfinished.{continued, HasOne}
use Rattle.frame_writer.proofs.Sureness.{pairs_begun, some_begun, none_held, no_pairs}
use Rattle.frame_writer.proofs.writer.FrameWriter.is_begun.Goals as goal

pub returns-then-is_some-clause-begun : goal.returns-then-is_some-clause-begun
returns-then-is_some-clause-begun c = λ h.
    let w = c.args.self.now in some_begun w.every w.halves w.frames w.pairs.items w.id w.held w.sound (sym c.is_some.ensures ∙ c.if-is_some.true)

pub returns-else-is_some-clause-begun : goal.returns-else-is_some-clause-begun
returns-else-is_some-clause-begun c = λ h.
    let w = c.args.self.now in
    let n : w.held ≡ None = none_held w.held (sym c.is_some.ensures ∙ c.if-is_some.false) in
    subst (λ (o : Option ℕ). HasOne (continued w.every w.halves (later_of w []) w.frames w.pairs.items w.id o [])) (sym n)
    (pairs_begun w.every w.halves w.frames w.pairs.items w.id (grind arith))

pub returns-else-is_some-clause-none : goal.returns-else-is_some-clause-none
returns-else-is_some-clause-none c = λ h.
    let w = c.args.self.now in
    let n : w.held ≡ None = none_held w.held (sym c.is_some.ensures ∙ c.if-is_some.false) in
    let e : length w.pairs.items ≡ 0 = grind arith in
    ap (λ (o : Option ℕ). continued w.every w.halves (later_of w []) w.frames w.pairs.items w.id o []) n
    ∙ no_pairs w.every w.halves w.frames w.pairs.items w.id e
