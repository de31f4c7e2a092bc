-- The modes of a port: which has no formatter, and which hunts.
use Rattle.std.specs.Prelude.{Bool, true, false}
use Rattle.deformatter.specs.Names.{FramesMode, Hunt, Aligned, Bare}

-- there is no formatter
abbrev pub is_bare : FramesMode → Bool
is_bare Bare = true
is_bare Hunt = false
is_bare Aligned = false

-- the reading begins after a hunt
abbrev pub hunts : FramesMode → Bool
hunts Hunt = true
hunts Aligned = false
hunts Bare = false
