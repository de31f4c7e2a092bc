-- The runs of frames, and what hides a front of them.
use Rattle.std.specs.Prelude.{◌≡◌, List, ◌++◌, map}
use Rattle.resync_laws.specs.Names.{Cell, unnamed}

abbrev pub unnamed_run : List Cell → List Cell
unnamed_run run = map unnamed run

-- the same runs, but for the IDs of a front of them
pub record RunsLater (whole rest : List (List Cell)) : Type 0 where
  pub hidden : List (List Cell)
  pub named : List (List Cell)
  pub whole_is : whole ≡ hidden ++ named
  pub rest_is : rest ≡ map unnamed_run hidden ++ named

-- The same runs, but for those before a front of the rest, and for the IDs of this front.
pub record RunsRest (whole rest : List (List Cell)) : Type 0 where
  pub before : List (List Cell)
  pub hidden : List (List Cell)
  pub named : List (List Cell)
  pub whole_is : whole ≡ (before ++ hidden) ++ named
  pub rest_is : rest ≡ map unnamed_run hidden ++ named
