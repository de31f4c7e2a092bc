-- What the putting of a line takes of a formatter.
use Rattle.std.specs.Prelude.{◌≡◌, ℕ, ◌+◌, ◌≤◌}
use Rattle.script_rebuild.specs.Names.{COUNT_ROOM, Formatter}
use Rattle.port_formatter.specs.Formatter.{HasRoom, count_of, turns_of}

-- it has room for so many pairs, and its count for 100 more
pub record CanSpend (pairs : ℕ) (formatter : Formatter) : Type 0 where
  pub count : count_of formatter + 100 ≤ COUNT_ROOM
  pub room : HasRoom formatter pairs

-- no more than that was taken, and its sources take turns as before
pub record Spends (pairs : ℕ) (old new : Formatter) : Type 0 where
  pub turns : turns_of new ≡ turns_of old
  pub count : count_of new ≤ count_of old + 100
  pub room : (more : ℕ) → HasRoom old (pairs + more) → HasRoom new more
