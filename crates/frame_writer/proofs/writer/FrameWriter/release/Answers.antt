use Rattle.frame_writer.proofs.Frames.{defers_null}
use Rattle.std.proofs.Common.{ap, ◌∙◌, sym, Option, ℕ, None, []}
use Rattle.frame_writer.specs.Writer.{later_of}
use Rattle.frame_writer.specs.Unfinished.{continued}
use Rattle.frame_writer.proofs.writer.FrameWriter.release.Goals as goal

pub returns-in-Some-clause-to_come : goal.returns-in-Some-clause-to_come
returns-in-Some-clause-to_come c = λ later.
    let w = c.args.self.now in
    defers_null w.every w.halves (later_of w later) w.frames w.pairs.items c.push.new.self.items w.id w.held c.in-Some.held w.sound c.in-Some.is c.push.ensures.items
    ∙ ap (λ (x : Option ℕ). continued w.every w.halves (later_of w later) w.frames c.push.new.self.items x None []) (sym c.new-self.ensures)
