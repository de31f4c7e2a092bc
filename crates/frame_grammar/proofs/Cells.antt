-- The cells at an odd index.
use Rattle.std.specs.Prelude.{ℕ, ◌+◌, ◌*◌, List, [], ◌∷◌, Option, slice_index}
use Rattle.frame_grammar.specs.Names.{Cell}
use Rattle.frame_grammar.specs.Frame.{cell}

abbrev pub odd_cells : List ℕ → List ℕ → Option ℕ → ℕ → List Cell
odd_cells frame offsets id k = cell frame offsets id (2 * k + 1) (slice_index frame (2 * k + 1)) ∷ []
