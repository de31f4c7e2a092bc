use Rattle.std.proofs.Common.{◌+◌, sym}
use Rattle.frame_writer.specs.Writer.{later_of}
use Rattle.frame_writer.proofs.Frames.{begins}
use Rattle.frame_writer.proofs.Segments.{later_known}
use Rattle.frame_writer.proofs.writer.FrameWriter.begin_frame.Goals as goal

pub returns-then-is_sync_due-clause-to_come : goal.returns-then-is_sync_due-clause-to_come
returns-then-is_sync_due-clause-to_come c = λ t later.
    begins c.args.self.now.every c.args.self.now.halves (later_of c.args.self.now later) (later_known c.args.self.now.every c.args.self.now.halves later) (c.args.self.now.frames + 1) c.clear.new.self.items c.args.self.now.id c.args.self.now.held t
    c.clear.ensures c.requires.held (sym c.if-is_sync_due.ensures)
