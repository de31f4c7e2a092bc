-- A piece of the bytes of a port, given to its reader.
use Rattle.std.specs.Prelude.{◌≡◌, ℕ, ◌+◌, ◌<◌, ◌≤◌, List, [], ◌++◌, length, take}
use Rattle.deformatter.specs.Names.{Cell, Placed, placed_from}
use Rattle.deformatter.specs.Block.{FedAs}
use Rattle.deformatter.specs.Growth.{goes_on}
use Rattle.deformatter.specs.Reader.{Stands, mode_of, is_live, tail_of, skipped_by}
use Rattle.deformatter.specs.ReadingGrowth.{Answers}
use Rattle.deformatter.specs.declared.block.Taken.{Taken}
use Rattle.deformatter.specs.declared.reader.PortReader.{PortReader}
use Rattle.deformatter.specs.declared.step.PortStep.TheVariants.{Quiet}

-- A reader took so many bytes from the front of a piece, the first of which is at this offset: up to the first to which
-- the answer is not quiet, or all. With the last of them these cells are given.
pub record ReadsPiece (old new : PortReader) (at : ℕ) (piece : List ℕ) (taken : Taken) (given : List Cell)
    : Type 0 where
  pub same : mode_of new ≡ mode_of old
  pub bytes : (0 < taken.bytes) × (taken.bytes ≤ length piece)
  pub stops : taken.step ≡ Quiet → taken.bytes ≡ length piece
  pub list : (u : List Placed) → Stands old u → Stands new (u ++ placed_from at (take taken.bytes piece))
  pub fed : (u : List Placed) → Stands old u →
      FedAs (Answers (mode_of old) Quiet []) (Answers (mode_of old) taken.step given) u at (take taken.bytes piece)
  pub live : is_live new ≡ goes_on taken.step
  pub few : tail_of new + skipped_by new ≤ tail_of old + skipped_by old + taken.bytes
