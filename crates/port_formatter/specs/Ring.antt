-- Frames of which what becomes sure is kept in a ring.
use Rattle.std.specs.Prelude.{ℕ, ◌+◌, ◌*◌, List, length}
use Rattle.frame_writer.specs.Sure.{held_by, pairs_of}
use Rattle.port_formatter.specs.declared.ring_frames.RingFrames.{RingFrames}

-- what is sure and was not given yet
abbrev pub kept_in : RingFrames → List ℕ
kept_in r = r.kept.items

-- how much of the ring may be filled without a byte more, and how much there is, in sevenths of a byte: a pair makes
-- 132 of them at most
abbrev pub filled_of : RingFrames → ℕ
filled_of r = 7 * length (kept_in r) + 7 * held_by r.frames + 132 * pairs_of r.frames

abbrev pub space_of : RingFrames → ℕ
space_of r = 7 * r.kept.capacity
