-- The numbers that words say in decimal.
use Rattle.std.specs.Prelude.{ℕ, List, Option, Some, None, nat_le, nat_eq, Bool, ◌&&◌, if◌then◌else◌, decimal}
use Rattle.std.specs.Prelude.{◌≡◌, ◌<◌, option_and_then, length, drop, slice_index}
use Rattle.std.specs.List.{starts_with}
use Rattle.std.specs.Str.{bytes_eq}
use Rattle.std.specs.Str.Parse.{digits_value}

-- the number from `least` to `greatest` whose decimal the text is. A decimal has no sign, and no leading zero
-- unless it is 0. No other number than the value of its digits can be meant.
abbrev pub is_number : ℕ → ℕ → List ℕ → ℕ → Bool
is_number least greatest text n = nat_le least n && nat_le n greatest && bytes_eq (decimal n) text

-- and that number, if there is one
abbrev pub number_named : ℕ → ℕ → List ℕ → Option ℕ
number_named least greatest text =
    if is_number least greatest text (digits_value 10 text) then Some (digits_value 10 text) else None

-- what comes after this front of a text, if the text begins with it
abbrev pub text_after : List ℕ → List ℕ → Option (List ℕ)
text_after front text =
    if starts_with nat_eq text front then Some (drop (length front) text) else None

-- the number from `least` to `greatest` that comes after this front of a text
abbrev pub number_after : List ℕ → ℕ → ℕ → List ℕ → Option ℕ
number_after front least greatest text = option_and_then (number_named least greatest) (text_after front text)

-- there is a digit, and no leading zero unless the text is that zero
abbrev pub HasDigits : List ℕ → Type 0
HasDigits text = (0 < length text) × (slice_index text 0 ≡ 48 → length text ≡ 1)
