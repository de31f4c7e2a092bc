-- The numbers that words say.
use Rattle.std.specs.Prelude.{ℕ, ◌==◌, ◌&&◌, List, length, Option, Some, None, if◌then◌else◌}
use Rattle.std.specs.List.{list_all}
use Rattle.std.specs.Char.{is_ascii_hexdigit}
use Rattle.std.specs.Str.Parse.{digits_value}
use Rattle.script_text.specs.Names.{number_named}
use Rattle.script_text.specs.Steps.{◌>>=◌}
use Rattle.script_text.specs.Words.{word_of}

-- the number of exactly this many hexadecimal digits, in either case, most significant first
unfoldable pub hexadecimal_named : ℕ → List ℕ → Option ℕ
hexadecimal_named count text =
    if length text == count && list_all is_ascii_hexdigit text then Some (digits_value 16 text) else None

-- the number that the word of this number is: up to `greatest` in decimal, or of so many hexadecimal digits
abbrev pub decimal_at : ℕ → List (List ℕ) → ℕ → Option ℕ
decimal_at greatest words k = number_named 0 greatest (word_of words k)

abbrev pub hexadecimal_at : ℕ → List (List ℕ) → ℕ → Option ℕ
hexadecimal_at count words k = hexadecimal_named count (word_of words k)

-- the decimal that the word after the first is, and the value that the word of this number is, as values of a row
abbrev pub numbers_at : ℕ → ℕ → List (List ℕ) → ℕ → Option (ℕ × (ℕ × Unit {0}))
numbers_at greatest count words k = do
  number ← decimal_at greatest words 1
  rest ← hexadecimal_at count words k >>= λ value. Some (value, tt)
  Some (number, rest)
