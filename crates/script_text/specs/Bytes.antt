-- The bytes of raw lines.
use Rattle.std.specs.Prelude.{ℕ, List, length, ◌||◌, nat_lt, if◌then◌else◌, Option, Some, None, Result, Ok, Err}
use Rattle.hex.specs.Hex.{decode_of}
use Rattle.hex.specs.declared.error.FromHexError.{FromHexError}

abbrev pub decoded : Result (List ℕ) FromHexError → Option (List ℕ)
decoded (Ok bytes) = Some bytes
decoded (Err e) = None

-- the bytes that a word is in hexadecimal, two digits each: 1 to 100
abbrev pub bytes_named : List ℕ → Option (List ℕ)
bytes_named text = if nat_lt (length text) 2 || nat_lt 200 (length text) then None else decoded (decode_of text)
