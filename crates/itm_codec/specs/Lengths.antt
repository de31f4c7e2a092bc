-- How many bytes a packet has, as the tables tell. That a packet is spelt by so many bytes is said in Windows.
use Rattle.std.specs.Prelude.{◌≡◌, ◌<◌, ℕ, ◌+◌, ◌*◌, List, [], ◌∷◌, take, drop, get_or, slice_index}
use Rattle.std.specs.Prelude.{nat_lt, if◌then◌else◌}
use Rattle.itm_codec.specs.declared.lengths.TheConstants.{KINDS, LENGTHS}

-- the place of the first of these bytes with bit 7 clear, from 0 on: how many they are where none has
abbrev pub first_clear : List ℕ → ℕ
first_clear [] = 0
first_clear (b ∷ bytes) = if nat_lt b 128 then 0 else 1 + first_clear bytes

-- of bytes that begin with a header, those after it up to that one
abbrev pub groups_behind : List ℕ → List ℕ
groups_behind window = take (1 + first_clear (drop 1 window)) (drop 1 window)

-- what the tables have for a header, where the first byte after it with bit 7 clear is at this place
abbrev pub told_at : ℕ → ℕ → ℕ
told_at header place = get_or LENGTHS.now (8 * get_or KINDS.now header 0 + place) 0

-- and for bytes that begin with a packet
abbrev pub told_length : List ℕ → ℕ
told_length window = told_at (slice_index window 0) (first_clear (drop 1 window))

-- they tell how many bytes it has, and that is this many
abbrev pub IsTold : List ℕ → ℕ → Type 0
IsTold window bytes = (0 < bytes) × (bytes ≡ told_length window)
