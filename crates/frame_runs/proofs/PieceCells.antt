-- The cells of the front of a piece.
use Rattle.std.proofs.Common.{◌≡◌, ℕ, zero, suc, ◌+◌, ◌<◌, ◌≤◌, List, [], ◌∷◌, length, take, get_or, refl, sym, ◌∙◌, ap, arith, Some}
use Rattle.std.proofs.lemmas.List.{length-take-le}
use Rattle.source_events.specs.Runs.{RisesFrom, bytes_of, placed_run}
use Rattle.trace_values.specs.Placed.{Placed, byte_at, placed_from}
use Rattle.trace_values.specs.declared.cell.Cell.{Cell}
use Rattle.frame_runs.specs.Piece.{bytes_in, cells_from, piece_cells}
use Rattle.frame_runs.specs.declared.piece.PieceRun.{PieceRun}

pub cells_length : (at : ℕ) (bs : List ℕ) → length (cells_from at bs) ≡ length bs
cells_length at [] = refl
cells_length at (c ∷ bs) = ap suc (cells_length (at + 1) bs)

cells_bytes : (at : ℕ) (bs : List ℕ) → bytes_of (cells_from at bs) ≡ bs
cells_bytes at [] = refl
cells_bytes at (c ∷ bs) = ap (λ (l : List ℕ). c ∷ l) (cells_bytes (at + 1) bs)

-- they are the bytes in their places, which rise
pub cells_placed : (at : ℕ) (bs : List ℕ) → placed_run (cells_from at bs) ≡ placed_from at bs
cells_placed at [] = refl
cells_placed at (c ∷ bs) = ap (λ (l : List Placed). byte_at at c ∷ l) (cells_placed (at + 1) bs)

pub cells_rise : (at : ℕ) (bs : List ℕ) → RisesFrom at (cells_from at bs)
cells_rise at [] = tt
cells_rise at (c ∷ bs) = ((let z : at ≤ at = omega arith in z), cells_rise (at + 1) bs)

pub cells_at : (at : ℕ) (bs : List ℕ) (i n : ℕ) (d : Cell) → i < n → n ≤ length bs →
    get_or (cells_from at (take n bs)) i d ≡ record { at = at + i; id = Some 1; run = 0; byte = get_or bs i 0 }
cells_at at [] i zero d l m = absurd (let z = l in omega arith)
cells_at at [] i (suc n) d l m = absurd (let z = m in omega arith)
cells_at at (c ∷ bs) i zero d l m = absurd (let z = l in omega arith)
cells_at at (c ∷ bs) zero (suc n) d l m =
    ap (λ (k : ℕ). record { at = k; id = Some 1; run = 0; byte = c }) (let z : at ≡ at + 0 = omega arith in z)
cells_at at (c ∷ bs) (suc i) (suc n) d l m =
    cells_at (at + 1) bs i n d (let z = l in omega arith) (let z = m in omega arith)
    ∙ ap (λ (k : ℕ). record { at = k; id = Some 1; run = 0; byte = get_or bs i 0 }) (let z : at + 1 + i ≡ at + suc i = omega arith in z)

pub bytes_length : (run : PieceRun) → length (bytes_in run) ≡ run.count
bytes_length run = length-take-le run.count run.ahead.now (let z = run.there in omega arith)

pub piece_length : (run : PieceRun) → length (piece_cells run) ≡ run.count
piece_length run = cells_length run.at (bytes_in run) ∙ bytes_length run

pub piece_bytes : (run : PieceRun) → take (length (piece_cells run)) run.ahead.now ≡ bytes_of (piece_cells run)
piece_bytes run =
    ap (λ (n : ℕ). take n run.ahead.now) (piece_length run) ∙ sym (cells_bytes run.at (bytes_in run))
