-- What a source reads as, and how a machine's answers follow the readings of the list of bytes that it stands for.
use Rattle.std.specs.Prelude.{◌≡◌, ℕ, ◌+◌, ◌*◌, ◌≤◌, List, [], ◌∷◌, ◌++◌, Bool, true, false, Option, None, Some}
use Rattle.std.specs.Prelude.{is_none, length, map}
use Rattle.trace_values.specs.declared.fault.Reason.{Reason}
use Rattle.trace_values.specs.declared.limits.TheConstants.{COUNT_ROOM}
use Rattle.trace_values.specs.declared.step.Step.{Step}
use Rattle.trace_values.specs.declared.step.Step.TheVariants.{Quiet, Skipping, Item, Locked, Fault as Faulty}
use Rattle.trace_values.specs.Placed.{Place}
use Rattle.trace_values.specs.Reading.{Progress}

-- what a source gives at a place: the notice of its lock with the number of units skipped, or an item
pub data Said (V : Type 0) : Type 0 where
  Notice : ℕ → Said V
  Kept : V → Said V

-- What a source's list of bytes reads as: its notice and items with their places, the fault, the number of units of
-- the unfinished packet, the number of units skipped, and whether the reading has begun.
pub record Stream (V : Type 0) : Type 0 where
  pub given : List (Said V × Place)
  pub fault : Option (Place × Reason)
  pub held : ℕ
  pub skipped : ℕ
  pub locked : Bool

-- the items of a reading, as a source gives them
abbrev pub kept : {V : Type 0} → List (V × Place) → List (Said V × Place)
kept items = map (λ x. (Kept x.0, x.1)) items

-- a reading after this many skipped units, with what was given before its items
abbrev pub shown : {S V : Type 0} → List (Said V × Place) → ℕ → Progress S V → Stream V
shown front skipped p =
    record { given = front ++ kept p.items; fault = p.fault; held = length p.rest; skipped = skipped; locked = true }

-- a reading from the list's first unit on
abbrev pub stream_of : {S V : Type 0} → Progress S V → Stream V
stream_of p = shown [] 0 p

-- what a step at this offset gives
abbrev pub given_by : {V : Type 0} → ℕ → Step V → List (Said V × Place)
given_by at Quiet = []
given_by at Skipping = []
given_by at (Item half v) = (Kept v, record { at = at; half = half }) ∷ []
given_by at (Locked skipped half v) =
    (Notice skipped, record { at = at; half = half }) ∷ ((Kept v, record { at = at; half = half }) ∷ [])
given_by at (Faulty f) = []

-- the fault that a step at this offset tells
abbrev pub fault_by : {V : Type 0} → ℕ → Step V → Option (Place × Reason)
fault_by at (Faulty f) = Some (record { at = at; half = f.half }, f.reason)
fault_by at s = None

-- a step with which the machine stays live
abbrev pub goes_on : {V : Type 0} → Step V → Bool
goes_on (Faulty f) = false
goes_on s = true

-- the item that a step gives is such a one
abbrev pub StepFits : {V : Type 0} → (V → Type 0) → Step V → Type 0
StepFits fits Quiet = Unit {0}
StepFits fits Skipping = Unit {0}
StepFits fits (Item half v) = fits v
StepFits fits (Locked skipped half v) = fits v
StepFits fits (Faulty f) = Unit {0}

-- a lock tells this number of skipped units
abbrev pub LocksAfter : {V : Type 0} → ℕ → Step V → Type 0
LocksAfter count (Locked skipped half v) = skipped ≡ count
LocksAfter count s = Unit {0}

-- after this step, of such an item, a machine is so live, and has skipped so many units
abbrev pub Tells : {V : Type 0} → Bool → ℕ → (V → Type 0) → Step V → Type 0
Tells live skipped fits step = (live ≡ goes_on step) × LocksAfter skipped step × StepFits fits step

-- a machine that holds and skipped so many units has room for those of one more byte
abbrev pub HasRoom : ℕ → ℕ → Type 0
HasRoom held skipped = (held ≤ COUNT_ROOM) × (skipped ≤ COUNT_ROOM)

-- what a step says of the hunt, and a fault of its offset
abbrev pub HuntBy : {V : Type 0} → Stream V → Stream V → ℕ → Step V → Type 0
HuntBy old new at Quiet = (old.locked ≡ true) × (new.locked ≡ true) × (new.skipped ≡ old.skipped)
HuntBy old new at Skipping = (old.locked ≡ false) × (new.locked ≡ false)
HuntBy old new at (Item half v) = (old.locked ≡ true) × (new.locked ≡ true) × (new.skipped ≡ old.skipped)
HuntBy old new at (Locked skipped half v) = (old.locked ≡ false) × (new.locked ≡ true) × (new.skipped ≡ skipped)
HuntBy old new at (Faulty f) = (f.at ≡ at) × (old.locked ≡ true)

-- With one more byte, at this offset, the reading grew from old to new, and the step says by what.
pub record Grows {V : Type 0} (old new : Stream V) (at : ℕ) (step : Step V) : Type 0 where
  pub given : new.given ≡ old.given ++ given_by at step
  pub fault : new.fault ≡ fault_by at step
  pub hunt : HuntBy old new at step

-- What a machine shows of the reading of a list of this many bytes: of the unfinished packet only while it is live.
pub record Shows {V : Type 0} (live locked : Bool) (held skipped bytes : ℕ) (s : Stream V) : Type 0 where
  pub live_is : live ≡ is_none s.fault
  pub locked_is : locked ≡ s.locked
  pub skipped_is : skipped ≡ s.skipped
  pub held_is : live ≡ true → held ≡ s.held
  pub room : live ≡ true → held + skipped ≤ 2 * bytes

-- after a fault nothing is read
pub record Settled {V : Type 0} (old new : Stream V) : Type 0 where
  pub given : new.given ≡ old.given
  pub fault : new.fault ≡ old.fault

-- This many more units are held; nothing is given or skipped, and no reading begins.
pub record Holds {V : Type 0} (units : ℕ) (old new : Stream V) : Type 0 where
  pub given : new.given ≡ old.given
  pub held : new.held ≡ old.held + units
  pub skipped : new.skipped ≡ old.skipped
  pub locked : new.locked ≡ old.locked

-- all of these are at this offset, and none is at an earlier half than the one before it
abbrev pub AllAt : {W : Type 0} → ℕ → ℕ → List (W × Place) → Type 0
AllAt at half [] = Unit {0}
AllAt at half (x ∷ xs) = (x.1.at ≡ at) × (half ≤ x.1.half) × AllAt at x.1.half xs

-- a new fault is at this offset, and an old one stays
abbrev pub FaultAt : ℕ → Option (Place × Reason) → Option (Place × Reason) → Type 0
FaultAt at None (Some f) = f.0.at ≡ at
FaultAt at None None = Unit {0}
FaultAt at (Some f) new = new ≡ Some f

-- With one more byte at this offset a reading has more, and what is more is there.
pub record Rises {V : Type 0} (old new : Stream V) (at : ℕ) : Type 0 where
  pub more : List (Said V × Place)
  pub given : new.given ≡ old.given ++ more
  pub all : AllAt at 0 more
  pub fault : FaultAt at old.fault new.fault
