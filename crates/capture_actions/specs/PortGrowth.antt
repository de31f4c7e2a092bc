-- How the reading of a port grows with bytes of a piece.
use Rattle.std.specs.Prelude.{◌≡◌, ℕ, ◌++◌, List, Option, Bool}
use Rattle.capture_actions.specs.Names.{Cell, placed_from, cells, offsets_of, without_halves}
use Rattle.capture_actions.specs.Names.{cells_of, FramesMode, FaultAfter}
use Rattle.capture_actions.specs.Port.{port_of, IsPortFaulty}

-- with the bytes up to the next ones the frames gained these cells, and this tells whether a fault became certain with
-- the last
pub record Gained (mode : FramesMode) (seen next : List ℕ) (more : List Cell) (is_faulty : Bool) : Type 0 where
  pub cells : cells_of (port_of mode next) ≡ cells_of (port_of mode seen) ++ more
  pub fault : FaultAfter (IsPortFaulty mode) next is_faulty

-- the cells of a frame after this ID, whose bytes are these from this offset on, with half synchronisations
-- between them
abbrev pub whole_cells : ℕ → List ℕ → List ℕ → Option ℕ → List Cell
whole_cells at bytes frame id = cells frame (offsets_of (without_halves (placed_from at bytes))) id
