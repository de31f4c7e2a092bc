-- Offsets that rise.
use Rattle.std.specs.Prelude.{ℕ, ◌+◌, ◌≤◌, List, [], ◌∷◌, map}
use Rattle.deformatter.specs.Names.{Cell, Placed, offsets_of}

-- these numbers rise, from lo on and below hi
abbrev pub Rise : ℕ → ℕ → List ℕ → Type 0
Rise lo hi [] = lo ≤ hi
Rise lo hi (x ∷ xs) = (lo ≤ x) × Rise (x + 1) hi xs

-- the offsets of cells
abbrev pub offsets_in : List Cell → List ℕ
offsets_in cells = map (λ c. c.at) cells

-- bytes, and cells, at rising offsets
abbrev pub BytesRise : ℕ → ℕ → List Placed → Type 0
BytesRise lo hi u = Rise lo hi (offsets_of u)

abbrev pub CellsRise : ℕ → ℕ → List Cell → Type 0
CellsRise lo hi cells = Rise lo hi (offsets_in cells)

-- the number after the last of these, or lo where there is none
abbrev pub end_at : ℕ → List ℕ → ℕ
end_at lo [] = lo
end_at lo (x ∷ xs) = end_at (x + 1) xs
