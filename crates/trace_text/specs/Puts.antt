-- What is put into a room: a piece after the first `from` bytes, which stay as they are. What is after it may change.
use Rattle.std.specs.Prelude.{◌≡◌, ℕ, ◌+◌, ◌≤◌, List, ◌++◌, length, take}

-- it ends at `to`, at most so many bytes on
pub record Puts (old new : List ℕ) (from to most : ℕ) (piece : List ℕ) : Type 0 where
  pub text : take to new ≡ take from old ++ piece
  pub same : length new ≡ length old
  pub end : to ≤ from + most

-- just so many
pub record PutsAll (old new : List ℕ) (from to size : ℕ) (piece : List ℕ) : Type 0 where
  pub text : take to new ≡ take from old ++ piece
  pub same : length new ≡ length old
  pub end : to ≡ from + size
