-- A number for each source.
use Rattle.std.specs.Prelude.{ℕ, slice_index, sum}
use Rattle.recovery_engine.specs.declared.per_source.PerSource.{PerSource}

-- the number of a source, and the sum of all
abbrev pub number_of : PerSource → ℕ → ℕ
number_of numbers id = slice_index numbers.numbers id

abbrev pub total_of : PerSource → ℕ
total_of numbers = sum numbers.numbers
