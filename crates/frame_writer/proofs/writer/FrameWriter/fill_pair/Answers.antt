use Rattle.std.proofs.Common.{sym}
use Rattle.frame_writer.specs.Writer.{later_of}
use Rattle.frame_writer.proofs.Frames.{fills_null, names_null}
use Rattle.frame_writer.proofs.writer.FrameWriter.fill_pair.Goals as goal

pub returns-then-is_null_in_force-clause-to_come : goal.returns-then-is_null_in_force-clause-to_come
returns-then-is_null_in_force-clause-to_come c = λ later.
    let w = c.args.self.now in
    fills_null w.every w.halves (later_of w later) w.frames w.pairs.items _ w.id w.held c.requires.begun c.requires.room c.requires.held (sym c.if-is_null_in_force.ensures) c.push.ensures.items

pub returns-else-is_null_in_force-clause-to_come : goal.returns-else-is_null_in_force-clause-to_come
returns-else-is_null_in_force-clause-to_come c = λ later.
    let w = c.args.self.now in
    names_null w.every w.halves (later_of w later) w.frames w.pairs.items _ w.id _ w.held c.requires.begun c.requires.room c.requires.held (sym c.if-is_null_in_force.ensures) c.new-self.ensures c.push-else-is_null_in_force.ensures.items
