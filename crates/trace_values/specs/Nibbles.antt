-- Bytes as two nibbles each, the low one first: the order in which the nibbles of an STP stream are packed into bytes
-- (MIPI System Trace Protocol, version 2).
use Rattle.std.specs.Prelude.{ℕ, ◌/◌, ◌%◌, List, [], ◌∷◌, flat_map}
use Rattle.trace_values.specs.Placed.{Placed}

-- the low nibble of a byte at this offset
abbrev pub low_of : ℕ → ℕ → Placed
low_of at byte = record { unit = byte % 16; place = record { at = at; half = 0 } }

-- and the high one; of a number beyond a byte the next four bits, so that each unit is a nibble
abbrev pub high_of : ℕ → ℕ → Placed
high_of at byte = record { unit = byte / 16 % 16; place = record { at = at; half = 1 } }

-- the nibbles of placed bytes, in order
abbrev pub nibbles_of : List Placed → List Placed
nibbles_of u = flat_map (λ b. low_of b.place.at b.unit ∷ (high_of b.place.at b.unit ∷ [])) u
