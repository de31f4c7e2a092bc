-- The cells of bytes of one source.
use Rattle.std.proofs.Common.{◌≡◌, ℕ, zero, suc, ◌<◌, ◌≤◌, List, [], ◌∷◌, length, take, get_or, refl, ap, arith, Option}
use Rattle.frame_runs.specs.Data.{run_cells}
use Rattle.source_events.specs.Runs.{bytes_of, id_of}
use Rattle.trace_values.specs.declared.cell.Cell.{Cell}

pub cells_length : (offsets : List ℕ) (id : Option ℕ) (run : ℕ) (bytes : List ℕ) → length bytes ≤ length offsets →
    length (run_cells offsets id run bytes) ≡ length bytes
cells_length [] id run [] h = refl
cells_length [] id run (b ∷ bytes) h = absurd (omega arith)
cells_length (o ∷ offsets) id run [] h = refl
cells_length (o ∷ offsets) id run (b ∷ bytes) h = ap suc (cells_length offsets id run bytes (omega arith))

pub cells_bytes : (offsets : List ℕ) (id : Option ℕ) (run : ℕ) (bytes : List ℕ) → length bytes ≤ length offsets →
    bytes_of (run_cells offsets id run bytes) ≡ bytes
cells_bytes [] id run [] h = refl
cells_bytes [] id run (b ∷ bytes) h = absurd (omega arith)
cells_bytes (o ∷ offsets) id run [] h = refl
cells_bytes (o ∷ offsets) id run (b ∷ bytes) h = ap (λ (l : List ℕ). b ∷ l) (cells_bytes offsets id run bytes (omega arith))

pub cells_cell : (offsets : List ℕ) (id : Option ℕ) (run : ℕ) (bytes : List ℕ) (i x y : ℕ) (c : Cell) → i < length bytes →
    length bytes ≤ length offsets → get_or (run_cells offsets id run bytes) i c ≡
    record { at = get_or offsets i x; id = id; run = run; byte = get_or bytes i y }
cells_cell offsets id run [] i x y c l h = absurd (omega arith)
cells_cell [] id run (b ∷ bytes) i x y c l h = absurd (omega arith)
cells_cell (o ∷ offsets) id run (b ∷ bytes) zero x y c l h = refl
cells_cell (o ∷ offsets) id run (b ∷ bytes) (suc i) x y c l h = cells_cell offsets id run bytes i x y c (omega arith) (omega arith)

pub cells_id : (offsets : List ℕ) (id : Option ℕ) (run : ℕ) (bytes : List ℕ) → 0 < length bytes → length bytes ≤ length offsets →
    id_of (run_cells offsets id run bytes) ≡ id
cells_id offsets id run [] l h = absurd (omega arith)
cells_id [] id run (b ∷ bytes) l h = absurd (omega arith)
cells_id (o ∷ offsets) id run (b ∷ bytes) l h = refl

-- offsets after those of the bytes say nothing
pub cells_take : (offsets : List ℕ) (id : Option ℕ) (run : ℕ) (bytes : List ℕ) →
    run_cells (take (length bytes) offsets) id run bytes ≡ run_cells offsets id run bytes
cells_take [] id run [] = refl
cells_take [] id run (b ∷ bytes) = refl
cells_take (o ∷ offsets) id run [] = refl
cells_take (o ∷ offsets) id run (b ∷ bytes) =
    ap (λ (l : List Cell). record { at = o; id = id; run = run; byte = b } ∷ l) (cells_take offsets id run bytes)
