-- The mapped sources of a recovering engine.
use Rattle.std.specs.Prelude.{◌≡◌, ℕ, ◌+◌, List, [], ◌∷◌, Bool, Option, None, Some, ◌==◌, if◌then◌else◌}
use Rattle.source_events.specs.declared.plan.Plan.{Plan}
use Rattle.source_events.specs.Plan as plans
use Rattle.source_machine.specs.Units.{reads_by}
use Rattle.recovering_machines.specs.Mapped.{Guesses, Stands, guesses_of, kind_of, reads_of, total_of}
use Rattle.recovering_machines.specs.declared.mapped.MappedSource.{MappedSource}
use Rattle.recovery_report.specs.Placing.{PartsBetween}
use Rattle.recovery_report.specs.Report.{Part, stretches_of}
use Rattle.recovery_engine.specs.declared.slot.RecoveringSlot.{RecoveringSlot}

-- the source of this ID
abbrev pub source_at : List RecoveringSlot → ℕ → Option MappedSource
source_at [] x = None
source_at (s ∷ slots) x = if s.id == x then Some s.source else source_at slots x

-- It reads what the plan says, with guesses or without, and stands for its stretches in these parts. Its guess follows
-- them where the parts lie one after the other.
pub record IsSource (guesses : Bool) (plan : Plan) (parts : List Part) (x : ℕ) (s : MappedSource) : Type 0 where
  pub kind : plans.kind_of plan x ≡ Some (kind_of s)
  pub reads : reads_of s ≡ reads_by plan.order (kind_of s)
  pub says : guesses_of s ≡ guesses
  pub list : Stands s (stretches_of plan (kind_of s) x parts)
  pub guess : (at : ℕ) → PartsBetween 0 at parts → Guesses s at (stretches_of plan (kind_of s) x parts)

abbrev pub StandsAt : Bool → Plan → List Part → ℕ → Option MappedSource → Type 0
StandsAt guesses plan parts x None = plans.kind_of plan x ≡ None
StandsAt guesses plan parts x (Some s) = IsSource guesses plan parts x s

-- these are the plan's sources, and stand for their stretches in these parts
abbrev pub StandFor : Bool → Plan → List Part → List RecoveringSlot → Type 0
StandFor guesses plan parts slots = (x : ℕ) → StandsAt guesses plan parts x (source_at slots x)

-- how many units all of them hold and skipped
abbrev pub total : List RecoveringSlot → ℕ
total [] = 0
total (s ∷ slots) = total_of s.source + total slots
