-- Parts that are taken, and what they add to the report.
use Rattle.std.specs.Prelude.{◌≡◌, ◌≢◌, ℕ, List, [], ◌++◌, Bool, Option, None, Some}
use Rattle.trace_values.specs.declared.cell.Cell.{Cell}
use Rattle.source_events.specs.declared.event.Event.{Event}
use Rattle.source_events.specs.declared.packet.Packet.{Packet}
use Rattle.source_events.specs.declared.plan.Plan.{Plan}
use Rattle.stretch_readings.specs.declared.heard.Heard.{Heard}
use Rattle.recovering_machines.specs.Mapped.{IsCut, TakesMapped}
use Rattle.recovering_machines.specs.declared.mapped.MappedSource.{MappedSource}
use Rattle.recovery_report.specs.Placing.{PartsBetween}
use Rattle.recovery_report.specs.Report.{Part, report_from}
use Rattle.recovery_engine.specs.Slots.{StandFor, source_at}
use Rattle.recovery_engine.specs.declared.slot.RecoveringSlot.{RecoveringSlot}

-- After these parts some more came: these sources stand for all, and where the parts lie one after the other the report
-- grew by these events.
pub record Grown (guesses : Bool) (plan : Plan) (parts more : List Part) (slots : List RecoveringSlot)
    (given : List (Event (Heard Packet))) : Type 0 where
  pub list : StandFor guesses plan (parts ++ more) slots
  pub grew : (at : ℕ) → PartsBetween 0 at (parts ++ more) →
      report_from guesses plan [] (parts ++ more) ≡ report_from guesses plan [] parts ++ given

-- These parts were taken, whatever came before: what they add to the report was given.
abbrev pub Takes : {S : Type 0} → (S → List (Event (Heard Packet)) → S → Type 0) → List Part →
    List RecoveringSlot × S → List RecoveringSlot × S → Type 0
Takes gets more old new = (given : List (Event (Heard Packet))) × gets old.1 given new.1
    × ((guesses : Bool) (plan : Plan) (parts : List Part) → StandFor guesses plan parts old.0 →
    Grown guesses plan parts more new.0 given)

-- The source of this ID took these cells, and all others are as before.
pub record TakesOwn {S : Type 0} (gets : S → List (Event (Heard Packet)) → S → Type 0) (room : S → ℕ) (id : ℕ)
    (cells : List Cell) (old new : List RecoveringSlot × S) : Type 0 where
  pub before : MappedSource
  pub after : MappedSource
  pub was : source_at old.0 id ≡ Some before
  pub is : source_at new.0 id ≡ Some after
  pub others : (x : ℕ) → x ≢ id → source_at new.0 x ≡ source_at old.0 x
  pub takes : TakesMapped gets room id cells before after old.1 new.1

-- all sources were cut
abbrev pub IsCutAt : Option MappedSource → Option MappedSource → Type 0
IsCutAt None None = Unit {0}
IsCutAt (Some s) (Some t) = IsCut s t
IsCutAt None (Some t) = ⊥
IsCutAt (Some s) None = ⊥

abbrev pub AreCut : List RecoveringSlot → List RecoveringSlot → Type 0
AreCut old new = (x : ℕ) → IsCutAt (source_at old x) (source_at new x)
