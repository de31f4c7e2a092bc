use Rattle.std.proofs.Common.{◌≡◌, ◌<◌, ◌-◌, List, length, [], None}
use Rattle.frame_writer.specs.Written.{Tagged}
use Rattle.frame_writer.specs.Writer.{to_come}
use Rattle.frame_writer.proofs.writer.FrameWriter.fill_pairs.Given as goal

abbrev pub decreases-loop-self : goal.decreases-loop-self
decreases-loop-self l = 7 - length l.self.pairs.items

abbrev pub invariant-loop-self : goal.invariant-loop-self
invariant-loop-self l = record {
  to_come : (later : List (List Tagged)) → to_come l.fn.self [] later ≡ to_come l.self [] later;
  held : l.self.held ≡ None;
  begun : 0 < length l.self.pairs.items;
  frames : l.self.frames ≡ l.fn.self.frames;
}
