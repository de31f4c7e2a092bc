use Rattle.std.proofs.Common.{◌∙◌, sym, take}
use Rattle.capture_actions.specs.Names.{placed}
use Rattle.capture_actions.proofs.Feeding.{counted_stands, counted_stop}
use Rattle.capture_actions.proofs.reading.CaptureReading.count_frames.Goals as goal

pub returns-clause-read : goal.returns-clause-read
returns-clause-read c = λ seen s.
    let old = c.args.self.now in
    let one = c.count_frames.ensures in
    let new = c.count_frames.new.reading in
    let bytes = take c.count_frames.result c.args.piece.now in
    let list = one.list (placed seen) s.engine in
    record {
      engine = counted_stands old.engine new seen bytes s.engine list;
      stop = counted_stop old.engine new seen bytes s.engine list one.live old.stop (sym old.alive ∙ c.requires.live);
    }
