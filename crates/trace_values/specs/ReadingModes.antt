-- The names of modes, and which of them hunt.
use Rattle.std.specs.Prelude.{ℕ, List, codes, Option, Some, None, Bool, true, false, if◌then◌else◌}
use Rattle.std.specs.Str.{bytes_eq}
use Rattle.trace_values.specs.declared.reading_modes.FramesMode.{FramesMode}
use Rattle.trace_values.specs.declared.reading_modes.FramesMode.TheVariants.{Hunt as FramesHunt}
use Rattle.trace_values.specs.declared.reading_modes.FramesMode.TheVariants.{Aligned as FramesAligned}
use Rattle.trace_values.specs.declared.reading_modes.FramesMode.TheVariants.{Bare}
use Rattle.trace_values.specs.declared.reading_modes.PacketsMode.{PacketsMode}
use Rattle.trace_values.specs.declared.reading_modes.PacketsMode.TheVariants.{Hunt, Aligned}

-- the mode of a port that a text names
abbrev pub frames_named : List ℕ → Option FramesMode
frames_named name =
    if bytes_eq name (codes "hunt") then Some FramesHunt
    else if bytes_eq name (codes "aligned") then Some FramesAligned
    else if bytes_eq name (codes "bare") then Some Bare
    else None

-- the mode of sources that a text names
abbrev pub packets_named : List ℕ → Option PacketsMode
packets_named name =
    if bytes_eq name (codes "hunt") then Some Hunt
    else if bytes_eq name (codes "aligned") then Some Aligned
    else None

-- sources are hunted for their first synchronisation packet
abbrev pub packets_hunt : PacketsMode → Bool
packets_hunt Hunt = true
packets_hunt Aligned = false
