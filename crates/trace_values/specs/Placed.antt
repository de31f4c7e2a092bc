-- Units with their places in the capture.
use Rattle.std.specs.Prelude.{ℕ, ◌+◌, List, [], ◌∷◌, map}

-- a place in the capture: a byte's offset, and which half of it (0 is the low one)
pub record Place : Type 0 where
  pub at : ℕ
  pub half : ℕ

-- a unit, a byte or a nibble, with its place
pub record Placed : Type 0 where
  pub unit : ℕ
  pub place : Place

-- the units alone
abbrev pub units_of : List Placed → List ℕ
units_of u = map (λ p. p.unit) u

-- a byte of the capture at this offset
abbrev pub byte_at : ℕ → ℕ → Placed
byte_at at byte = record { unit = byte; place = record { at = at; half = 0 } }

-- bytes of the capture from this offset on
abbrev pub placed_from : ℕ → List ℕ → List Placed
placed_from at [] = []
placed_from at (byte ∷ bytes) = byte_at at byte ∷ placed_from (at + 1) bytes

-- a whole capture
abbrev pub placed : List ℕ → List Placed
placed bytes = placed_from 0 bytes
