-- The texts of values.
use Rattle.std.specs.Prelude.{ℕ, List, ◌++◌, codes}
use Rattle.std.specs.Int.{to_be_bytes, w8, w16, w32}
use Rattle.hex.specs.Hex.{encode_lower}
use Rattle.itm_grammar.specs.declared.packet.Size.{Size}
use Rattle.itm_grammar.specs.declared.packet.Size.TheVariants.{One, Two, Four}

-- the word of a width, with a space after it
abbrev pub width_text : Size → List ℕ
width_text One = codes "u8 "
width_text Two = codes "u16 "
width_text Four = codes "u32 "

-- the bytes of a value, most significant first
abbrev pub bytes_of_value : Size → ℕ → List ℕ
bytes_of_value One value = to_be_bytes w8 value
bytes_of_value Two value = to_be_bytes w16 value
bytes_of_value Four value = to_be_bytes w32 value

-- the word of a width, and the value in as many hexadecimal digits as its bytes have, most significant first
abbrev pub value_text : Size → ℕ → List ℕ
value_text One value = codes "u8 " ++ encode_lower (to_be_bytes w8 value)
value_text Two value = codes "u16 " ++ encode_lower (to_be_bytes w16 value)
value_text Four value = codes "u32 " ++ encode_lower (to_be_bytes w32 value)
