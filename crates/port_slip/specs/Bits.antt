-- Bytes as bits, each byte's low bit first, as a serial line sends them (this project's profile).
use Rattle.std.specs.Prelude.{ℕ, zero, suc, ◌+◌, ◌*◌, ◌/◌, ◌%◌, List, [], ◌∷◌, flat_map, Bool, true, ◌==◌}
use Rattle.std.specs.Prelude.{if◌then◌else◌}

-- this many bits of a number, from bit 0 up
unfoldable pub bits : ℕ → ℕ → List Bool
bits zero x = []
bits (suc n) x = (x % 2 == 1) ∷ bits n (x / 2)

-- this many ones
unfoldable pub ones : ℕ → List Bool
ones zero = []
ones (suc n) = true ∷ ones n

-- the bits of bytes, in order
abbrev pub bits_of : List ℕ → List Bool
bits_of bytes = flat_map (λ b. bits 8 b) bytes

-- the number whose bits these are, from bit 0 up
abbrev pub number : List Bool → ℕ
number [] = 0
number (b ∷ s) = (if b then 1 else 0) + 2 * number s

-- the whole bytes of some bits, in order; the under eight bits after them are dropped
abbrev pub whole_bytes : List Bool → List ℕ
whole_bytes (a ∷ (b ∷ (c ∷ (d ∷ (e ∷ (f ∷ (g ∷ (h ∷ s)))))))) =
    number (a ∷ (b ∷ (c ∷ (d ∷ (e ∷ (f ∷ (g ∷ (h ∷ [])))))))) ∷ whole_bytes s
whole_bytes s = []
