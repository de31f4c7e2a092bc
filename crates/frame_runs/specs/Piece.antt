-- The front of a piece of a capture with no formatter, as a run of source 1.
use Rattle.std.specs.Prelude.{ℕ, ◌+◌, List, [], ◌∷◌, take, Some}
use Rattle.trace_values.specs.declared.cell.Cell.{Cell}
use Rattle.frame_runs.specs.declared.piece.PieceRun.{PieceRun}

-- the cells of these bytes from this offset on, as those of one run
abbrev pub cells_from : ℕ → List ℕ → List Cell
cells_from at [] = []
cells_from at (byte ∷ bytes) = record { at = at; id = Some 1; run = 0; byte = byte } ∷ cells_from (at + 1) bytes

-- its bytes, and their cells
abbrev pub bytes_in : PieceRun → List ℕ
bytes_in run = take run.count run.ahead.now

abbrev pub piece_cells : PieceRun → List Cell
piece_cells run = cells_from run.at (bytes_in run)
