-- A frame of 16 bytes and its cells, looking back from each index (CoreSight Architecture Specification, Arm IHI 0029E
-- (version 3.0), chapter 'Trace Formatter', its section on frames). The mixed-use bytes are those at 0, 2 .. 14, and
-- byte 15 has the auxiliary bits. IDs are the specification's trace source IDs.
use Rattle.std.specs.Prelude.{◌≡◌, ◌≢◌, ℕ, zero, suc, ◌+◌, ◌*◌, ◌/◌, ◌%◌, ◌^◌, ◌<◌, List, [], ◌∷◌, ◌++◌, slice_index}
use Rattle.std.specs.Prelude.{Bool, nat_lt, ◌==◌, ◌&&◌, ◌||◌, not, if◌then◌else◌, Option}
use Rattle.std.specs.List.{filter, range_with_len}
use Rattle.frame_grammar.specs.Names.{Cell, source_id}

-- none of the mixed-use bytes below 2n, those at even indexes, is FF: the ID 127 is never used
abbrev pub IsProperBelow : ℕ → List ℕ → Type 0
IsProperBelow n frame = (k : ℕ) → k < n → slice_index frame (2 * k) ≢ 0xFF

-- nor any of the frame
abbrev pub IsProperFrame : List ℕ → Type 0
IsProperFrame frame = IsProperBelow 8 frame

-- the mixed-use byte at 2k names a source, by its bit 0
abbrev pub names : List ℕ → ℕ → Bool
names frame k = slice_index frame (2 * k) % 2 == 1

-- the auxiliary bit of the byte at 2k: bit k of byte 15
abbrev pub aux_bit : List ℕ → ℕ → ℕ
aux_bit frame k = (slice_index frame 15 / 2 ^ k) % 2

-- The byte at 2k names a source that is in effect at i: it is before i, and its auxiliary bit is 0, or the data byte
-- after it is before i too. That the auxiliary bit of byte 14 says nothing is this project's profile.
abbrev pub in_effect : List ℕ → ℕ → ℕ → Bool
in_effect frame i k = names frame k && nat_lt (2 * k) i && (aux_bit frame k == 0 || nat_lt (2 * k + 1) i)

-- the ID at i by the greatest even index below 2n that is in effect there, or else the ID before the frame
abbrev pub id_below : List ℕ → Option ℕ → ℕ → ℕ → Option ℕ
id_below frame id i zero = id
id_below frame id i (suc k) =
    if in_effect frame i k then source_id (slice_index frame (2 * k) / 2) else id_below frame id i k

-- the ID in force at i
abbrev pub id_at : List ℕ → Option ℕ → ℕ → Option ℕ
id_at frame id i = id_below frame id i 8

-- how many even indexes below 2n are in effect at i
abbrev pub run_below : List ℕ → ℕ → ℕ → ℕ
run_below frame i zero = 0
run_below frame i (suc k) = if in_effect frame i k then run_below frame i k + 1 else run_below frame i k

-- the run at i: how many ID bytes are in effect there (a run is this project's notion)
abbrev pub run_at : List ℕ → ℕ → ℕ
run_at frame i = run_below frame i 8

-- the data at an even index 2k: its bit 0 is the auxiliary one
abbrev pub even_data : List ℕ → ℕ → ℕ
even_data frame k = 2 * (slice_index frame (2 * k) / 2) + aux_bit frame k

-- the data byte at i, with what is in force there
abbrev pub cell : List ℕ → List ℕ → Option ℕ → ℕ → ℕ → Cell
cell frame offsets id i byte =
    record { at = slice_index offsets i; id = id_at frame id i; run = run_at frame i; byte = byte }

-- the cells at 2k: none where the byte there names a source
abbrev pub even_cells : List ℕ → List ℕ → Option ℕ → ℕ → List Cell
even_cells frame offsets id k = if names frame k then [] else (cell frame offsets id (2 * k) (even_data frame k) ∷ [])

-- the cells below 2n, of which each byte at an odd index is one
abbrev pub cells_below : List ℕ → List ℕ → Option ℕ → ℕ → List Cell
cells_below frame offsets id zero = []
cells_below frame offsets id (suc k) =
    cells_below frame offsets id k
    ++ (even_cells frame offsets id k ++ cell frame offsets id (2 * k + 1) (slice_index frame (2 * k + 1)) ∷ [])

-- the cells of the frame that follows this ID; byte 15 is none
abbrev pub cells : List ℕ → List ℕ → Option ℕ → List Cell
cells frame offsets id = cells_below frame offsets id 7 ++ even_cells frame offsets id 7

-- the ID after the frame
abbrev pub id_after : List ℕ → Option ℕ → Option ℕ
id_after frame id = id_at frame id 16

-- the ID and the run in force at i
pub record IsInForce (frame : List ℕ) (before : Option ℕ) (i : ℕ) (id : Option ℕ) (run : ℕ) : Type 0 where
  pub id_is : id ≡ id_at frame before i
  pub run_is : run ≡ run_at frame i

-- the indexes below 15 that are no ID bytes
abbrev pub data_indexes : List ℕ → List ℕ
data_indexes frame = filter (λ i. not (i % 2 == 0 && slice_index frame i % 2 == 1)) (range_with_len 0 15)

-- the data at an index that is no ID byte
abbrev pub data_at : List ℕ → ℕ → ℕ
data_at frame i = if i % 2 == 0 then even_data frame (i / 2) else slice_index frame i
