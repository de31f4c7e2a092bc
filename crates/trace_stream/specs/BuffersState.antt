-- The buffers of a run.
use Rattle.std.specs.Prelude.{List, ℕ}

-- what contracts see of the buffers: the bytes that are still to be written, and the last bytes that were fed
pub record BuffersState : Type 0 where
  pub pending : List ℕ
  pub recent : List ℕ
