-- What callers see of a source that never fails.
use Rattle.std.specs.Prelude.{ℕ, List}

-- the bytes still to come, and how many calls gave no byte
pub record SureState : Type 0 where
  pub left : List ℕ
  pub empty_reads : ℕ
