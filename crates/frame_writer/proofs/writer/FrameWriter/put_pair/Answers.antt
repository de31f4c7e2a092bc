use Rattle.std.proofs.Common.{[], Option, ℕ, sym, ◌∙◌, ap, arith}
use Rattle.frame_writer.specs.Unfinished.{continued}
use Rattle.frame_writer.specs.Writer.{later_of}
use Rattle.frame_writer.proofs.Frames.{joined}
use Rattle.frame_writer.proofs.Sureness.{none_held, pairs_begun, pushed_some}
use Rattle.frame_writer.proofs.writer.FrameWriter.put_pair.Goals as goal

pub returns-clause-to_come : goal.returns-clause-to_come
returns-clause-to_come c = λ e t later.
    let w = c.args.self.now in
    let none = none_held w.held (sym c.if-is_some.ensures) in
    joined w.every w.halves (later_of w later) w.frames w.pairs.items c.push.new.self.items w.id w.held c.args.id c.args.first c.args.second _ t w.sound none
    (let l = c.len.ensures.value in let m = c.if-len-ge7.false in omega arith) c.requires.source
    (sym c.if-not-is_in_force.ensures) (omega arith) c.push.ensures.items
    ∙ ap (λ (x : Option ℕ). continued w.every w.halves (later_of w later) w.frames c.push.new.self.items w.id x t) (sym none)

pub returns-clause-begun : goal.returns-clause-begun
returns-clause-begun c = λ e.
    let w = c.args.self.now in
    let none = none_held w.held (sym c.if-is_some.ensures) in
    let one = pairs_begun w.every w.halves w.frames c.push.new.self.items w.id (pushed_some w.pairs.items _ _ c.push.ensures.items) in
    (one.0, ap (λ (x : Option ℕ). continued w.every w.halves (later_of w []) w.frames c.push.new.self.items w.id x []) none ∙ one.1)
