-- The runs of the cells of one frame. A run is this project's notion: the bytes of a frame up to the next ID that takes
-- effect.
use Rattle.std.specs.Prelude.{◌≡◌, ◌≤◌, List}
use Rattle.std.specs.List.{All, Contains}
use Rattle.std.specs.List.Sorted.{IsNonDecreasingBy}
use Rattle.frame_grammar.specs.Names.{Cell}

-- The runs never fall along the list, cells of one run have one ID, and no run is above 8.
pub record HasRuns (cs : List Cell) : Type 0 where
  pub in_order : IsNonDecreasingBy (λ c. c.run) cs
  pub one_id : (c d : Cell) → Contains cs c → Contains cs d → c.run ≡ d.run → c.id ≡ d.id
  pub few : All (λ c. c.run ≤ 8) cs
