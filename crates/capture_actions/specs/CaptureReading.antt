-- What the reading of a capture with all its sources stands for.
use Rattle.std.specs.Prelude.{◌≡◌, ℕ, ◌+◌, List, ◌++◌, Bool, true, false, length, option_map}
use Rattle.capture_actions.specs.Names.{placed, Plan, Event, Packet, stop_of, report_of, fault_of, FaultAfter}
use Rattle.source_merge.specs.Engine as engines
use Rattle.source_merge.specs.Giving.{GivesTo}
use Rattle.capture_actions.specs.Faulty.{IsFaulty}
use Rattle.capture_actions.specs.declared.reading.CaptureReading.{CaptureReading}

-- how it is read
abbrev pub plan_of : CaptureReading → Plan
plan_of reading = engines.plan_of reading.engine

-- how many bytes it took
abbrev pub taken_by : CaptureReading → ℕ
taken_by reading = engines.next_of reading.engine

-- it has met no fault
abbrev pub IsLive : CaptureReading → Type 0
IsLive reading = engines.is_live reading.engine ≡ true

-- its engine stands for these bytes, and it keeps the fault of their report
pub record Stands (reading : CaptureReading) (seen : List ℕ) : Type 0 where
  pub engine : engines.Stands reading.engine (placed seen)
  pub stop : option_map stop_of reading.stop ≡ fault_of (engines.plan_of reading.engine) (placed seen)

-- the report of the bytes after these grew by these events, and this tells whether a fault became certain with the last
pub record Grew (old new : CaptureReading) (seen front : List ℕ) (is_faulty : Bool) (given : List (Event Packet))
    : Type 0 where
  pub stands : Stands new (seen ++ front)
  pub report : report_of (plan_of old) (placed (seen ++ front)) ≡ report_of (plan_of old) (placed seen) ++ given
  pub fault : FaultAfter (IsFaulty (plan_of old)) (seen ++ front) is_faulty

-- of whatever it stands for, with these bytes
abbrev pub ReadsOn : CaptureReading → CaptureReading → List ℕ → Bool → List (Event Packet) → Type 0
ReadsOn old new front is_faulty given = (seen : List ℕ) → Stands old seen → Grew old new seen front is_faulty given

-- A reading took these bytes, and gave their events to what takes them. Both are told before and after.
pub record TakesOn {S : Type 0} (gets : S → List (Event Packet) → S → Type 0) (old new : CaptureReading × S)
    (front : List ℕ) (is_faulty : Bool) : Type 0 where
  pub same : plan_of new.0 ≡ plan_of old.0
  pub count : taken_by new.0 ≡ taken_by old.0 + length front
  pub reads : GivesTo gets old.1 new.1 (ReadsOn old.0 new.0 front is_faulty)
  pub live : is_faulty ≡ false → IsLive new.0
