-- Bytes in text, for worked rows.
use Rattle.std.specs.Prelude.{ℕ, ◌+◌, ◌-◌, ◌*◌, ◌/◌, ◌%◌, List, [], ◌∷◌, Bool, true, false, not, ◌&&◌, ◌==◌}
use Rattle.std.specs.Prelude.{nat_lt, nat_le, if◌then◌else◌}

-- What is read where a text is misspelt: no byte has such a number.
abbrev pub misspelt : ℕ
misspelt = 4096

-- a character 0 to 9 or A to F, as a digit
abbrev pub digit : ℕ → ℕ
digit code =
    if nat_le 48 code && nat_lt code 58 then code - 48
    else if nat_le 65 code && nat_lt code 71 then code - 55
    else misspelt

-- the byte of two digits
abbrev pub byte_of : ℕ → ℕ → ℕ
byte_of high low = 16 * digit high + digit low

-- there are no characters
abbrev pub is_nothing : List ℕ → Bool
is_nothing [] = true
is_nothing (code ∷ text) = false

-- The bytes of a text that has two digits a byte and one blank between bytes. Of any other text some number is no byte.
abbrev pub hex : List ℕ → List ℕ
hex (high ∷ (low ∷ (between ∷ text))) =
    (if between == 32 && not (is_nothing text) then byte_of high low else misspelt) ∷ hex text
hex (high ∷ (low ∷ [])) = byte_of high low ∷ []
hex (high ∷ []) = misspelt ∷ []
hex [] = []

-- a digit as its character
abbrev pub character : ℕ → ℕ
character digit = if nat_lt digit 10 then digit + 48 else digit + 55

-- the text of bytes: two digits a byte, and one blank between bytes
abbrev pub text_of : List ℕ → List ℕ
text_of [] = []
text_of (byte ∷ bytes) =
    character (byte / 16) ∷ (character (byte % 16) ∷ (if is_nothing bytes then [] else 32 ∷ text_of bytes))
