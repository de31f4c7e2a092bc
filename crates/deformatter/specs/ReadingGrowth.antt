-- How the reading of a port's bytes grows with one more byte, and what a step says of it.
use Rattle.std.specs.Prelude.{◌≡◌, ◌⊎◌, ℕ, ◌+◌, ◌≤◌, List, [], ◌∷◌, ◌++◌, None}
use Rattle.deformatter.specs.Names.{Cell, FaultAt, FramesMode, Placed, byte_at}
use Rattle.deformatter.specs.declared.step.PortStep.{PortStep}
use Rattle.deformatter.specs.declared.step.PortStep.TheVariants.{Quiet, Half, Frame}
use Rattle.deformatter.specs.Block.{FedAs}
use Rattle.deformatter.specs.Growth.{Hunting, Reads, HuntBy, fulls_by, halves_by, fault_by}
use Rattle.deformatter.specs.PortReading.{PortReading, port_reading}

-- the frames that a step ends: one of these cells, or none
abbrev pub frames_by : PortStep → List Cell → List (List Cell)
frames_by Frame cells = cells ∷ []
frames_by step cells = []

-- only a frame has cells
abbrev pub CellsFit : PortStep → List Cell → Type 0
CellsFit Frame cells = Unit {0}
CellsFit step cells = cells ≡ []

-- where a reading is in its hunt
abbrev pub hunting : PortReading → Hunting
hunting r = record { locked = r.locked; skipped = r.skipped }

-- With one more byte, at this offset, the reading grew from old to new, and the step says by what: by these cells where
-- it ends a frame.
pub record Grows (old new : PortReading) (at : ℕ) (step : PortStep) (cells : List Cell) : Type 0 where
  pub frames : new.frames ≡ old.frames ++ frames_by step cells
  pub fit : CellsFit step cells
  pub fulls : new.fulls ≡ old.fulls + fulls_by step
  pub halves : new.halves ≡ old.halves + halves_by step
  pub fault : new.fault ≡ fault_by step
  pub hunt : HuntBy (hunting old) (hunting new) at step

-- the answer to this byte, which follows u at this offset, is this step with these cells
abbrev pub Answers : FramesMode → PortStep → List Cell → List Placed → ℕ → ℕ → Type 0
Answers mode step cells u at byte =
    Grows (port_reading mode u) (port_reading mode (u ++ byte_at at byte ∷ [])) at step cells

-- the answer to this byte is quiet, or that of a half synchronisation
abbrev pub IsInside : FramesMode → List Placed → ℕ → ℕ → Type 0
IsInside mode u at byte = Answers mode Quiet [] u at byte ⊎ Answers mode Half [] u at byte

-- these bytes follow u from this offset on: the last of them ends a frame of these cells, and those before it are
-- inside
abbrev pub FedFrame : FramesMode → List Cell → List Placed → ℕ → List ℕ → Type 0
FedFrame mode cells u at bytes = FedAs (IsInside mode) (Answers mode Frame cells) u at bytes

-- With the bytes of a frame of these cells, and of `inner` half synchronisations between them, the reading grew by that
-- frame.
pub record GrowsByFrame (old new : PortReading) (inner : ℕ) (cells : List Cell) : Type 0 where
  pub frames : new.frames ≡ old.frames ++ cells ∷ []
  pub fulls : new.fulls ≡ old.fulls
  pub halves : new.halves ≡ old.halves + inner
  pub fault : new.fault ≡ None
  pub hunt : Reads (hunting old) (hunting new)

-- after a fault nothing is read
pub record Settled (old new : PortReading) : Type 0 where
  pub frames : new.frames ≡ old.frames
  pub fulls : new.fulls ≡ old.fulls
  pub halves : new.halves ≡ old.halves
  pub fault : new.fault ≡ old.fault
  pub skipped : new.skipped ≡ old.skipped
  pub locked : new.locked ≡ old.locked

-- With one more byte at this offset a reading has more, and nothing is taken back.
pub record Rises (old new : PortReading) (at : ℕ) : Type 0 where
  pub more : List (List Cell)
  pub frames : new.frames ≡ old.frames ++ more
  pub fulls : old.fulls ≤ new.fulls
  pub halves : old.halves ≤ new.halves
  pub fault : FaultAt at old.fault new.fault

-- nothing is read
pub record IsNothing (r : PortReading) : Type 0 where
  pub frames : r.frames ≡ []
  pub fulls : r.fulls ≡ 0
  pub halves : r.halves ≡ 0
  pub fault : r.fault ≡ None
  pub tail : r.tail ≡ 0
  pub skipped : r.skipped ≡ 0
