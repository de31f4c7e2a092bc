-- The last bytes that were fed.
use Rattle.std.specs.Prelude.{List, ℕ}
use Rattle.circular_buffer.specs.Buffer.{keep_last}

-- the last sixteen of these bytes, or all where there are fewer
abbrev pub last_sixteen : List ℕ → List ℕ
last_sixteen bytes = keep_last 16 bytes
