-- The bytes of a source in a capture.
use Rattle.std.specs.Prelude.{ℕ, List}
use Rattle.resync_grammars.specs.Names.{Placed, FramesMode, source_units, port_reading, cells_of}

-- those that a port's bytes give in a mode, each at its place
abbrev pub source_bytes : FramesMode → ℕ → List Placed → List Placed
source_bytes mode id u = source_units id (cells_of (port_reading mode u))
