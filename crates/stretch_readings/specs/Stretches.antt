-- The recovering reading of a list of units (this project's profile; the standards leave open what a reader does after
-- a fault): a fault ends a stretch of the list, and the next one hunts from the fault on. So does the first one after a
-- cut. Each stretch is read as a list of its own.
use Rattle.std.specs.Prelude.{ℕ, ◌+◌, ◌-◌, List, [], ◌∷◌, ◌++◌, length, drop, map, flat_map, Bool, true, Option, None}
use Rattle.std.specs.Prelude.{Some}
use Rattle.std.specs.List.{sum_by}
use Rattle.trace_values.specs.declared.fault.Reason.{Reason}
use Rattle.trace_values.specs.Placed.{Place, Placed}
use Rattle.trace_values.specs.Stream.{Said, Notice, Kept, Stream}
use Rattle.stretch_readings.specs.declared.heard.Heard.{Heard}
use Rattle.stretch_readings.specs.declared.heard.Heard.TheVariants.{Read, Broken}

-- what a source is fed: a unit, or a mark where its list is cut
pub data Fed : Type 0 where
  One : Placed → Fed
  Mark : Fed

-- A stretch: whether it hunts, how many units were skipped before its own, and its units. It begins at the first of
-- them, and where its reading has a fault, the fault's is the last.
pub record Stretch : Type 0 where
  pub hunts : Bool
  pub count : ℕ
  pub units : List Placed

-- the stretches that are over, and the last one
pub record Stretches : Type 0 where
  pub past : List Stretch
  pub now : Stretch

-- How a reading goes on after a fault: whether the next stretch hunts, and how many of the last units it takes again of
-- a stretch that hunts or not and has these units. (With no hunt and none taken again it would read on at the next
-- unit.)
pub record Resumption : Type 0 where
  pub hunts : Bool
  pub again : Bool → List Placed → ℕ

-- in a hunt from the fault's unit on, as packets do
abbrev pub from_fault : Resumption
from_fault = record { hunts = true; again = λ hunts units. 1 }

-- What a list reads as is given, from its first unit on and in a hunt; and how it goes on after a fault.
module _ {V : Type 0} (reads : Bool → List Placed → Stream V) (way : Resumption) where
  abbrev pub read : Stretch → Stream V
  read s = reads s.hunts s.units

  -- the stretch after a fault: it counts the units of the unfinished item that it does not take again
  abbrev pub renewed : Stretch → Stretch
  renewed s = record {
    hunts = way.hunts;
    count = (read s).held - way.again s.hunts s.units;
    units = drop (length s.units - way.again s.hunts s.units) s.units;
  }

  abbrev pub resumed_by : Option (Place × Reason) → Stretches → Stretches
  resumed_by None r = r
  resumed_by (Some f) r = record { past = r.past ++ r.now ∷ []; now = renewed r.now }

  -- One more unit, and a new stretch where it is a fault. What comes after a cut is hunted, and counts from 0.
  abbrev pub with_unit : Stretches → Placed → Stretches
  with_unit r b = record r { now = record r.now { units = r.now.units ++ b ∷ [] } }

  abbrev pub resumed : Stretches → Stretches
  resumed r = resumed_by (read r.now).fault r

  abbrev pub parted : Stretches → Stretches
  parted r = record { past = r.past ++ r.now ∷ []; now = record { hunts = true; count = 0; units = [] } }

  abbrev pub fed : Stretches → Fed → Stretches
  fed r (One b) = resumed (with_unit r b)
  fed r Mark = parted r

  abbrev pub fed_from : Stretches → List Fed → Stretches
  fed_from r [] = r
  fed_from r (x ∷ l) = fed_from (fed r x) l

  abbrev pub before : Bool → Stretches
  before hunts = record { past = []; now = record { hunts = hunts; count = 0; units = [] } }

  -- the stretches of a list, of which the first hunts or not
  abbrev pub stretches : Bool → List Fed → Stretches
  stretches hunts l = fed_from (before hunts) l

  -- What a stretch says: its notice with its count, its items, and its fault.
  abbrev pub heard : ℕ → Said V × Place → Said (Heard V) × Place
  heard count (Notice skipped, place) = (Notice (count + skipped), place)
  heard count (Kept v, place) = (Kept (Read v), place)

  abbrev pub broken : Option (Place × Reason) → List (Said (Heard V) × Place)
  broken None = []
  broken (Some f) = (Kept (Broken f.1), f.0) ∷ []

  abbrev pub told : Stretch → List (Said (Heard V) × Place)
  told s = map (heard s.count) (read s).given ++ broken (read s).fault

  -- how many units a stretch skips; of one that is over and has no fault, those of its unfinished item too
  abbrev pub skipped_in : Stretch → ℕ
  skipped_in s = s.count + (read s).skipped

  abbrev pub tail_by : Option (Place × Reason) → ℕ → ℕ
  tail_by None held = held
  tail_by (Some f) held = 0

  abbrev pub lost_in : Stretch → ℕ
  lost_in s = skipped_in s + tail_by (read s).fault (read s).held

  -- What stretches read as: what all of them say, how many units the last one's unfinished item has, how many all of
  -- them skipped, and whether the last one reads.
  abbrev pub heard_of : Stretches → Stream (Heard V)
  heard_of r = record {
    given = flat_map told r.past ++ told r.now;
    fault = None;
    held = (read r.now).held;
    skipped = sum_by lost_in r.past + skipped_in r.now;
    locked = (read r.now).locked;
  }

  -- the recovering reading of a list
  abbrev pub recovering : Bool → List Fed → Stream (Heard V)
  recovering hunts l = heard_of (stretches hunts l)
