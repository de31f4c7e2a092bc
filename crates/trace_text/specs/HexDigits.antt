-- Hexadecimal digits of numbers whose bits are no whole bytes.
use Rattle.std.specs.Prelude.{ℕ, zero, suc, List, [], ◌∷◌, slice_index}
use Rattle.hex.specs.Hex.{lower_digits}
use Rattle.trace_clock.specs.LastWord.{nibble_at}

-- this many of a number's last nibbles, each as a digit, most significant first
unfoldable pub hex_digits : ℕ → ℕ → List ℕ
hex_digits zero value = []
hex_digits (suc count) value = slice_index lower_digits (nibble_at value count) ∷ hex_digits count value
