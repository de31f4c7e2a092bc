-- How the reading of a port's bytes grows with one more byte, and what a step says of it.
use Rattle.std.specs.Prelude.{◌≡◌, ◌⊎◌, ℕ, ◌+◌, ◌≤◌, List, [], ◌∷◌, ◌++◌, Bool, true, false, if◌then◌else◌, Option}
use Rattle.std.specs.Prelude.{None, Some}
use Rattle.deformatter.specs.Names.{Cell, Reason, Place, Placed, FaultAt, PortItem, Full, Half, Frame}
use Rattle.deformatter.specs.Reading.{PortStream, cells_in, fulls_of, frames_of}
use Rattle.deformatter.specs.declared.step.PortStep.{PortStep}
use Rattle.deformatter.specs.declared.step.PortStep.TheVariants.{Quiet, Half as HalfEnds, Full as FullEnds}
use Rattle.deformatter.specs.declared.step.PortStep.TheVariants.{Frame as FrameEnds, Locked, Fault as Faulty}

-- the byte at this offset
abbrev pub place_at : ℕ → Place
place_at at = record { at = at; half = 0 }

-- the item that a step ends; a half synchronisation inside a frame is part of the frame
abbrev pub ItemsBy : List (PortItem × Place) → List (PortItem × Place) → ℕ → PortStep → Type 0
ItemsBy old new at Quiet = new ≡ old
ItemsBy old new at HalfEnds = (new ≡ old) ⊎ (new ≡ old ++ (Half, place_at at) ∷ [])
ItemsBy old new at FullEnds = new ≡ old ++ (Full, place_at at) ∷ []
ItemsBy old new at FrameEnds =
    (bytes : List Placed) × (halves : ℕ) × (new ≡ old ++ (Frame bytes halves, place_at at) ∷ [])
ItemsBy old new at (Locked skipped) = new ≡ old ++ (Full, place_at at) ∷ []
ItemsBy old new at (Faulty f) = new ≡ old

-- how many full synchronisations, half synchronisations and frames a step ends
abbrev pub fulls_by : PortStep → ℕ
fulls_by FullEnds = 1
fulls_by (Locked skipped) = 1
fulls_by step = 0

abbrev pub halves_by : PortStep → ℕ
halves_by HalfEnds = 1
halves_by step = 0

abbrev pub frames_by : PortStep → ℕ
frames_by FrameEnds = 1
frames_by step = 0

-- the fault after a step
abbrev pub fault_by : PortStep → Option (Place × Reason)
fault_by (Faulty f) = Some (record { at = f.at; half = f.half }, f.reason)
fault_by step = None

-- a step with which a deformatter stays live
abbrev pub goes_on : PortStep → Bool
goes_on (Faulty f) = false
goes_on step = true

-- where a reading is in its hunt: whether it reads, and how many bytes it skipped
pub record Hunting : Type 0 where
  pub locked : Bool
  pub skipped : ℕ

abbrev pub hunting : PortStream → Hunting
hunting s = record { locked = s.locked; skipped = s.skipped }

-- it reads, and has skipped as much as before
pub record Reads (old new : Hunting) : Type 0 where
  pub before : old.locked ≡ true
  pub after : new.locked ≡ true
  pub skipped : new.skipped ≡ old.skipped

-- What a step says of the hunt: before the lock each byte is skipped, and at the lock the pattern's own three are no
-- longer.
abbrev pub HuntBy : Hunting → Hunting → ℕ → PortStep → Type 0
HuntBy old new at Quiet =
    (new.locked ≡ old.locked) × (new.skipped ≡ (if old.locked then old.skipped else (old.skipped + 1)))
HuntBy old new at (Locked skipped) =
    (old.locked ≡ false) × (new.locked ≡ true) × (new.skipped ≡ skipped) × (old.skipped ≡ skipped + 3)
HuntBy old new at (Faulty f) = (f.at ≡ at) × (f.half ≡ 0) × Reads old new
HuntBy old new at step = Reads old new

-- With one more byte, at this offset, the reading grew from old to new, and the step says by what.
pub record PortGrows (old new : PortStream) (at : ℕ) (step : PortStep) : Type 0 where
  pub items : ItemsBy old.items new.items at step
  pub halves : new.halves ≡ old.halves + halves_by step
  pub fulls : fulls_of new ≡ fulls_of old + fulls_by step
  pub frames : frames_of new ≡ frames_of old + frames_by step
  pub fault : new.fault ≡ fault_by step
  pub hunt : HuntBy (hunting old) (hunting new) at step

-- after a fault nothing is read
pub record PortSettled (old new : PortStream) : Type 0 where
  pub items : new.items ≡ old.items
  pub halves : new.halves ≡ old.halves
  pub fault : new.fault ≡ old.fault
  pub skipped : new.skipped ≡ old.skipped
  pub locked : new.locked ≡ old.locked

-- all of these items ended at this offset
abbrev pub AllEndAt : ℕ → List (PortItem × Place) → Type 0
AllEndAt at [] = Unit {0}
AllEndAt at (x ∷ xs) = (x.1 ≡ place_at at) × AllEndAt at xs

-- With one more byte at this offset a reading has more, what is more is there, and nothing is taken back.
pub record PortRises (old new : PortStream) (at : ℕ) : Type 0 where
  pub more : List (PortItem × Place)
  pub items : new.items ≡ old.items ++ more
  pub all : AllEndAt at more
  pub more_cells : List Cell
  pub cells : cells_in new ≡ cells_in old ++ more_cells
  pub halves : old.halves ≤ new.halves
  pub fulls : fulls_of old ≤ fulls_of new
  pub frames : frames_of old ≤ frames_of new
  pub fault : FaultAt at old.fault new.fault
