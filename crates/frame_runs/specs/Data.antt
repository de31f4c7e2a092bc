-- The data of a frame, and the cells of its runs (CoreSight Architecture Specification, Arm IHI 0029E
-- (version 3.0), chapter 'Trace Formatter', its section on frames).
use Rattle.std.specs.Prelude.{ℕ, ◌+◌, ◌*◌, ◌/◌, ◌%◌, slice_index, List, [], ◌∷◌, Option}
use Rattle.std.specs.Prelude.{Bool, if◌then◌else◌, nat_lt, ◌==◌, ◌&&◌}
use Rattle.frame_grammar.specs.Frame.{names, aux_bit, even_data}
use Rattle.trace_values.specs.declared.cell.Cell.{Cell}

-- these bytes of a source, at these offsets, with this run number
abbrev pub run_cells : List ℕ → Option ℕ → ℕ → List ℕ → List Cell
run_cells [] id run bytes = []
run_cells (at ∷ offsets) id run [] = []
run_cells (at ∷ offsets) id run (byte ∷ bytes) =
    (record { at = at; id = id; run = run; byte = byte }) ∷ run_cells offsets id run bytes

-- the two words of a frame
abbrev pub first_bytes : List ℕ → List ℕ
first_bytes frame =
    slice_index frame 0 ∷ slice_index frame 1 ∷ slice_index frame 2 ∷ slice_index frame 3
    ∷ slice_index frame 4 ∷ slice_index frame 5 ∷ slice_index frame 6 ∷ slice_index frame 7 ∷ []

abbrev pub last_bytes : List ℕ → List ℕ
last_bytes frame =
    slice_index frame 8 ∷ slice_index frame 9 ∷ slice_index frame 10 ∷ slice_index frame 11
    ∷ slice_index frame 12 ∷ slice_index frame 13 ∷ slice_index frame 14 ∷ slice_index frame 15 ∷ []

-- the bits 0 of the bytes at even indexes below 8, each in its halfword
abbrev pub lowest : List ℕ → ℕ
lowest bytes =
    slice_index bytes 0 % 2 + slice_index bytes 2 % 2 * 0x10000 + slice_index bytes 4 % 2 * 0x100000000
    + slice_index bytes 6 % 2 * 0x1000000000000

-- four bits, each in its halfword
abbrev pub spread_bits : ℕ → ℕ
spread_bits bits = bits % 2 + bits / 2 % 2 * 0x10000 + bits / 4 % 2 * 0x100000000 + bits / 8 % 2 * 0x1000000000000

-- eight bytes, of which those at even indexes have four bits as their bits 0
abbrev pub with_bit : ℕ → ℕ → ℕ
with_bit byte bit = 2 * (byte / 2) + bit

abbrev pub with_bits : List ℕ → ℕ → List ℕ
with_bits bytes bits =
    with_bit (slice_index bytes 0) (bits % 2) ∷ slice_index bytes 1
    ∷ with_bit (slice_index bytes 2) (bits / 2 % 2) ∷ slice_index bytes 3
    ∷ with_bit (slice_index bytes 4) (bits / 4 % 2) ∷ slice_index bytes 5
    ∷ with_bit (slice_index bytes 6) (bits / 8 % 2) ∷ slice_index bytes 7 ∷ []

-- The mixed-use byte at 2k names a source that is in effect only after the byte behind it. What byte 14 names is in
-- effect after the frame in any case.
abbrev pub is_late : List ℕ → ℕ → Bool
is_late frame k = nat_lt k 7 && names frame k && aux_bit frame k == 1

-- the byte in the place of 2k, and where it is: the one behind it where the byte at 2k names a source late
abbrev pub byte_in : List ℕ → ℕ → ℕ
byte_in frame k = if is_late frame k then slice_index frame (2 * k + 1) else even_data frame k

abbrev pub place_in : List ℕ → List ℕ → ℕ → ℕ
place_in frame behind k = if is_late frame k then slice_index behind (2 * k + 1) else slice_index behind (2 * k)

-- this bit where the byte is an ID byte
abbrev pub late_bit : ℕ → ℕ → ℕ
late_bit byte bit = if byte % 2 == 1 then bit else 0

-- four bits, but only those whose bytes at even indexes are ID bytes
abbrev pub late_bits : List ℕ → ℕ → ℕ
late_bits bytes bits =
    late_bit (slice_index bytes 0) (bits % 2) + 2 * late_bit (slice_index bytes 2) (bits / 2 % 2)
    + 4 * late_bit (slice_index bytes 4) (bits / 4 % 2) + 8 * late_bit (slice_index bytes 6) (bits / 8 % 2)

-- FF in the low byte of each halfword whose bit of the four is 1
abbrev pub masks : ℕ → ℕ
masks bits = spread_bits bits * 255

-- eight bytes, of which those at even indexes are replaced by the next ones where their bits of the four are 1
abbrev pub moved_byte : ℕ → ℕ → ℕ → ℕ
moved_byte bit byte next = if bit == 1 then next else byte

abbrev pub moved_bytes : List ℕ → ℕ → List ℕ
moved_bytes bytes bits =
    moved_byte (bits % 2) (slice_index bytes 0) (slice_index bytes 1) ∷ slice_index bytes 1
    ∷ moved_byte (bits / 2 % 2) (slice_index bytes 2) (slice_index bytes 3) ∷ slice_index bytes 3
    ∷ moved_byte (bits / 4 % 2) (slice_index bytes 4) (slice_index bytes 5) ∷ slice_index bytes 5
    ∷ moved_byte (bits / 8 % 2) (slice_index bytes 6) (slice_index bytes 7) ∷ slice_index bytes 7 ∷ []
