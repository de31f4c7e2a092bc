-- The bytes of a piece, fed one by one.
use Rattle.std.specs.Prelude.{◌≡◌, ◌⊎◌, ℕ, ◌+◌, ◌<◌, ◌≤◌, List, [], ◌∷◌, ◌++◌, length, take, Bool}
use Rattle.deformatter.specs.Names.{Placed, byte_at, placed_from, Cell}
use Rattle.deformatter.specs.Deformatter.{Stands, is_hunter, is_live, tail_of, skipped_by}
use Rattle.deformatter.specs.Reading.{port_stream, cells_in}
use Rattle.deformatter.specs.Growth.{PortGrows, goes_on}
use Rattle.deformatter.specs.declared.block.Taken.{Taken}
use Rattle.deformatter.specs.declared.deformatter.Deformatter.{Deformatter}
use Rattle.deformatter.specs.declared.step.PortStep.{PortStep}
use Rattle.deformatter.specs.declared.step.PortStep.TheVariants.{Quiet, Half, Frame}

-- the answer to this byte, which follows u at this offset, is this step
abbrev pub Answers : Bool → PortStep → List Placed → ℕ → ℕ → Type 0
Answers hunts step u at byte = PortGrows (port_stream hunts u) (port_stream hunts (u ++ byte_at at byte ∷ [])) at step

-- this is so of each of these bytes, where they follow u from this offset on
abbrev pub EachByte : (List Placed → ℕ → ℕ → Type 0) → List Placed → ℕ → List ℕ → Type 0
EachByte IsSo u at [] = Unit {0}
EachByte IsSo u at (byte ∷ bytes) = IsSo u at byte × EachByte IsSo (u ++ byte_at at byte ∷ []) (at + 1) bytes

-- these bytes follow u from this offset on: this is so of all but the last of them, and that of the last
pub record FedAs (IsQuiet IsLast : List Placed → ℕ → ℕ → Type 0) (u : List Placed) (at : ℕ) (bytes : List ℕ)
    : Type 0 where
  pub front : List ℕ
  pub last : ℕ
  pub parts : bytes ≡ front ++ last ∷ []
  pub quiet : EachByte IsQuiet u at front
  pub ends : IsLast (u ++ placed_from at front) (at + length front) last

-- the answer to this byte is quiet, or that of a half synchronisation
abbrev pub IsInside : Bool → List Placed → ℕ → ℕ → Type 0
IsInside hunts u at byte = Answers hunts Quiet u at byte ⊎ Answers hunts Half u at byte

-- these bytes follow u from this offset on: the last of them ends a frame, and those before it are inside
abbrev pub FedFrame : Bool → List Placed → ℕ → List ℕ → Type 0
FedFrame hunts u at bytes = FedAs (IsInside hunts) (Answers hunts Frame) u at bytes

-- bytes from this offset on, the answer to the last of them, and the cells that were given with it
pub record Block : Type 0 where
  pub at : ℕ
  pub bytes : List ℕ
  pub step : PortStep
  pub given : List Cell

-- A deformatter took the bytes of this block after u. It stands for u and them, its answers were quiet but for the
-- last, and the reading of the port gained the cells that were given.
pub record TakesBlock (old new : Deformatter) (u : List Placed) (block : Block) : Type 0 where
  pub list : Stands new (u ++ placed_from block.at block.bytes)
  pub fed : FedAs (Answers (is_hunter old) Quiet) (Answers (is_hunter old) block.step) u block.at block.bytes
  pub cells : cells_in (port_stream (is_hunter old) (u ++ placed_from block.at block.bytes))
      ≡ cells_in (port_stream (is_hunter old) u) ++ block.given

-- It took so many bytes from the front of a piece: up to the first to which the answer is not quiet, or all.
pub record TakesPiece (old new : Deformatter) (at : ℕ) (piece : List ℕ) (taken : Taken) (given : List Cell)
    : Type 0 where
  pub same : is_hunter new ≡ is_hunter old
  pub bytes : (0 < taken.bytes) × (taken.bytes ≤ length piece)
  pub stops : taken.step ≡ Quiet → taken.bytes ≡ length piece
  pub takes : (u : List Placed) → Stands old u → TakesBlock old new u
      (record { at = at; bytes = take taken.bytes piece; step = taken.step; given = given })
  pub live : is_live new ≡ goes_on taken.step
  pub few : tail_of new + skipped_by new ≤ tail_of old + skipped_by old + taken.bytes

-- It took one byte, which is at this offset. The cells of a frame are given with the byte that ends it.
pub record TakesByte (old new : Deformatter) (at byte : ℕ) (answer : PortStep) (given : List Cell) : Type 0 where
  pub same : is_hunter new ≡ is_hunter old
  pub list : (u : List Placed) → Stands old u → Stands new (u ++ byte_at at byte ∷ [])
  pub step : (u : List Placed) → Stands old u → Answers (is_hunter old) answer u at byte
  pub cells : (u : List Placed) → Stands old u →
      cells_in (port_stream (is_hunter old) (u ++ byte_at at byte ∷ []))
      ≡ cells_in (port_stream (is_hunter old) u) ++ given
  pub live : is_live new ≡ goes_on answer
  pub few : tail_of new + skipped_by new ≤ tail_of old + skipped_by old + 1
  pub each : (tail_of new ≤ tail_of old + 1) × (skipped_by new ≤ skipped_by old + 1)
  pub quiet : answer ≡ Quiet → given ≡ []
