-- The pairs of a frame at which its runs end: pair k has the bytes at 2k and 2k + 1, and names a source by bit 0 of the
-- first.
use Rattle.std.specs.Prelude.{ℕ, ◌+◌, ◌-◌, ◌*◌, ◌/◌, ◌%◌, ◌^◌, ◌==◌, ◌||◌, Bool, nat_lt, if◌then◌else◌, List}
use Rattle.std.specs.Prelude.{slice_index}
use Rattle.std.specs.List.{filter, range_with_len}
use Rattle.frame_grammar.specs.Frame.{aux_bit, names}
use Rattle.frame_runs.specs.declared.pairs.RunEnds.{RunEnds}

-- a run ends at a pair that names a source, and at the last one
abbrev pub is_end : List ℕ → ℕ → Bool
is_end frame k = names frame k || k == 7

-- Where it ends: before or behind the second byte of the pair, by the auxiliary bit. What byte 14 names is in effect
-- after the frame in any case, and byte 15 is no data.
abbrev pub end_at : List ℕ → ℕ → ℕ
end_at frame k = if nat_lt k 7 then 2 * k + aux_bit frame k else 15 - slice_index frame 14 % 2

-- those pairs of a frame from pair p on
unfoldable pub ends_from : List ℕ → ℕ → List ℕ
ends_from frame p = filter (λ k. is_end frame k) (range_with_len p (8 - p))

-- the places below 8 of the bits that are 1
unfoldable pub places : ℕ → List ℕ
places bits = filter (λ k. bits / 2 ^ k % 2 == 1) (range_with_len 0 8)

-- those that are still to come
abbrev pub ends_left : RunEnds → List ℕ
ends_left ends = places ends.bits

-- the bits 0 of the bytes at even indexes below 8, as a number of four bits
abbrev pub bits_of_half : List ℕ → ℕ
bits_of_half bytes =
    slice_index bytes 0 % 2 + slice_index bytes 2 % 2 * 2 + slice_index bytes 4 % 2 * 4 + slice_index bytes 6 % 2 * 8
