-- Sources before their first byte.
use Rattle.std.specs.Prelude.{◌≡◌, ℕ, List, [], Bool, true, false, Option, None, Some, ◌==◌}
use Rattle.std.specs.List.{list_any}
use Rattle.trace_values.specs.ReadingModes.{packets_hunt}
use Rattle.source_events.specs.declared.plan.Plan.{Plan}
use Rattle.source_events.specs.declared.plan.SourceKind.{SourceKind}
use Rattle.source_machine.specs.Units.{reads_by}
use Rattle.stretch_readings.specs.Stretches.{before, from_fault}
use Rattle.recovering_machines.specs.Mapped.{Guesses, Stands, guesses_of, kind_of, reads_of}
use Rattle.recovering_machines.specs.declared.mapped.MappedSource.{MappedSource}
use Rattle.recovery_engine.specs.Slots.{StandFor}
use Rattle.recovery_engine.specs.declared.slot.RecoveringSlot.{RecoveringSlot}

-- a source of this kind that has read nothing
pub record IsFresh (guesses : Bool) (plan : Plan) (kind : SourceKind) (s : MappedSource) : Type 0 where
  pub kind_is : kind_of s ≡ kind
  pub reads : reads_of s ≡ reads_by plan.order kind
  pub says : guesses_of s ≡ guesses
  pub list : Stands s (before (reads_of s) from_fault (packets_hunt plan.packets))
  pub guess : (at : ℕ) → Guesses s at (before (reads_of s) from_fault (packets_hunt plan.packets))

abbrev pub FreshIf : Bool → Plan → SourceKind → Bool → Option MappedSource → Type 0
FreshIf guesses plan kind true None = ⊥
FreshIf guesses plan kind true (Some s) = IsFresh guesses plan kind s
FreshIf guesses plan kind false o = o ≡ None

-- With sources of these IDs added, one that was there is there, and else one that is among them.
abbrev pub IsAdded : Bool → Plan → SourceKind → List ℕ → ℕ → Option MappedSource → Option MappedSource → Type 0
IsAdded guesses plan kind ids x None new = FreshIf guesses plan kind (list_any (λ y. y == x) ids) new
IsAdded guesses plan kind ids x (Some s) new = new ≡ Some s

-- those of a plan
abbrev pub AreFresh : Bool → Plan → List RecoveringSlot → Type 0
AreFresh guesses plan slots = StandFor guesses plan [] slots
