-- The runs of the cells of each frame.
use Rattle.std.specs.Prelude.{List, [], ◌∷◌}
use Rattle.deformatter.specs.Names.{Cell}
use Rattle.frame_grammar.specs.Runs.{HasRuns}

-- the cells of each of these frames have runs that never fall, and one ID in a run
abbrev pub HaveRuns : List (List Cell) → Type 0
HaveRuns [] = Unit {0}
HaveRuns (frame ∷ frames) = HasRuns frame × HaveRuns frames
