-- What an account of a recovering report is given as an engine takes bytes, and what it makes of them.
use Rattle.std.specs.Prelude.{◌≡◌, ℕ, ◌+◌, List, ◌++◌, length}
use Rattle.trace_values.specs.Placed.{placed}
use Rattle.source_events.specs.declared.event.Event.{Event}
use Rattle.source_events.specs.declared.packet.Packet.{Packet}
use Rattle.source_events.specs.declared.plan.Plan.{Plan}
use Rattle.stretch_readings.specs.declared.heard.Heard.{Heard}
use Rattle.recovery_report.specs.Report.{report_with}
use Rattle.recovery_engine.specs.Engine as reading
use Rattle.recovery_engine.specs.declared.engine.Recovery.{Recovery}
use Rattle.trace_stream.specs.Served.{Meaning}
use Rattle.recovery_listing.specs.declared.going_on.GoingOn.{GoingOn}

-- how an engine reads
abbrev pub read_by : Recovery → GoingOn Plan
read_by engine = record { plan = reading.plan_of engine; guesses = reading.guesses_of engine }

-- it has read these bytes
abbrev pub HasRead : Recovery → List ℕ → Type 0
HasRead engine seen = reading.Stands engine (placed seen)

-- the events of the report of these bytes, which are read so
abbrev pub events_of : GoingOn Plan → List ℕ → List (Event (Heard Packet))
events_of how bytes = report_with how.guesses how.plan (placed bytes)

-- what the outlets hold of what is written, and of what is noted
pub record Pages : Type 0 where
  pub text : List ℕ
  pub notes : List ℕ

-- An engine took these bytes after those that it had read, and the events that the report grows by with them were
-- given.
pub record TakesOn {S : Type 0} (gets : S → List (Event (Heard Packet)) → S → Type 0) (front : List ℕ)
    (old new : Recovery × S) : Type 0 where
  pub same : read_by new.0 ≡ read_by old.0
  pub count : reading.next_of new.0 ≡ reading.next_of old.0 + length front
  pub read : (seen : List ℕ) → HasRead old.0 seen → HasRead new.0 (seen ++ front)
  pub given : (given : List (Event (Heard Packet))) × gets old.1 given new.1
      × ((seen : List ℕ) → HasRead old.0 seen →
      events_of (read_by old.0) (seen ++ front) ≡ events_of (read_by old.0) seen ++ given)

-- With these bytes after those that were seen, what is written grew by the text that is new, and what is noted by what
-- they add to the notes.
pub record GoesOn (stands : List ℕ → Type 0) (meaning : Meaning) (notes : List ℕ → List ℕ) (seen front : List ℕ)
    (before after : Pages) : Type 0 where
  pub read : stands (seen ++ front)
  pub more : List ℕ
  pub grown : meaning.text (seen ++ front) ≡ meaning.text seen ++ more
  pub gained : after.text ≡ before.text ++ more
  pub told : List ℕ
  pub noted : notes (seen ++ front) ≡ notes seen ++ told
  pub noting : after.notes ≡ before.notes ++ told
