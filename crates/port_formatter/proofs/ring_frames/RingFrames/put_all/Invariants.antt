use Rattle.std.proofs.Common.{◌≡◌, ◌≤◌, ◌+◌, ◌*◌, [], take}
use Rattle.frame_writer.specs.Sure.{count_of}
use Rattle.port_formatter.specs.Ring.{filled_of}
use Rattle.port_formatter.proofs.RingWays.{Keeps}
use Rattle.port_formatter.proofs.ring_frames.RingFrames.put_all.Given as goal

abbrev pub invariant-loop-x : goal.invariant-loop-x
invariant-loop-x l = record {
  put : Keeps l.initial.self l.self (take l.x-index l.given);
  moved : l.sure.items ≡ [];
  count : count_of l.self.frames ≤ count_of l.initial.self.frames + l.x-index;
  filled : filled_of l.self ≤ filled_of l.initial.self + 264 * l.x-index;
  capacity : l.self.kept.capacity ≡ l.initial.self.kept.capacity;
}
