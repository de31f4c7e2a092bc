-- Bytes that are owed: the last of those that are put in order.
use Rattle.std.specs.Prelude.{ℕ, ◌-◌, List, length, drop}

-- the last of these bytes, at most so many
abbrev pub last_of : ℕ → List ℕ → List ℕ
last_of count bytes = drop (length bytes - count) bytes
