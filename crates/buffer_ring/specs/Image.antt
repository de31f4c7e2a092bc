-- The memory of a trace buffer that overwrites its oldest bytes (CoreSight Trace Memory Controller Technical Reference
-- Manual, Arm DDI 0461B: the registers RWP, the RAM write pointer, and STS, whose bit Full says that the memory was
-- filled; an image's form is this project's profile).
use Rattle.std.specs.Prelude.{ℕ, suc, ◌-◌, ◌%◌, List, [], ◌∷◌, ◌++◌, length, map, take, drop, Bool}
use Rattle.std.specs.Prelude.{◌==◌, nat_le, if◌then◌else◌}
use Rattle.std.specs.List.{range_with_len}

-- the last of these bytes, the first of which is number k, whose number modulo n is i; or else this one
abbrev pub last_at : ℕ → ℕ → ℕ → ℕ → List ℕ → ℕ
last_at n i k found [] = found
last_at n i k found (b ∷ u) = last_at n i (suc k) (if k % n == i then b else found) u

-- the image of n bytes: at each place the last byte whose number modulo n is the place's, or 00 if there is none
abbrev pub image : ℕ → List ℕ → List ℕ
image n u = map (λ i. last_at n i 0 0 u) (range_with_len 0 n)

-- where the next byte goes, whether each place was written, and how many bytes were overwritten
abbrev pub pointer : ℕ → List ℕ → ℕ
pointer n u = length u % n

abbrev pub is_full : ℕ → List ℕ → Bool
is_full n u = nat_le n (length u)

abbrev pub dropped : ℕ → List ℕ → ℕ
dropped n u = length u - n

-- the bytes of an image in the order in which they came
abbrev pub ordered : List ℕ → ℕ → Bool → List ℕ
ordered bytes at full = if full then drop at bytes ++ take at bytes else take at bytes
