-- What a mapped source keeps: what reads its bytes for sure, and its guess.
use Rattle.std.specs.Prelude.{◌≡◌, ℕ, ◌+◌, ◌*◌, ◌≤◌, List, ◌++◌, length, Bool, true, false, Some}
use Rattle.trace_values.specs.declared.cell.Cell.{Cell}
use Rattle.trace_values.specs.Placed.{Place, Placed}
use Rattle.trace_values.specs.Stream.{Said, Stream}
use Rattle.deformatter.specs.Rising.{CellsRise}
use Rattle.source_events.specs.declared.event.Event.{Event}
use Rattle.source_events.specs.declared.packet.Packet.{Packet}
use Rattle.source_events.specs.declared.plan.SourceKind.{SourceKind}
use Rattle.source_events.specs.Merge.{told}
use Rattle.source_events.specs.Report.{lifted}
use Rattle.stretch_readings.specs.declared.heard.Heard.{Heard}
use Rattle.stretch_readings.specs.Guessing.{said_of}
use Rattle.stretch_readings.specs.Stretches.{Stretches, from_fault, parted}
use Rattle.recovering_machines.specs.Guess.{Follows, total_of as guess_total}
use Rattle.recovering_machines.specs.Run as runs
use Rattle.recovering_machines.specs.Source as source
use Rattle.recovering_machines.specs.declared.guess.Guess.{Guess}
use Rattle.recovering_machines.specs.declared.mapped.MappedSource.{MappedSource}
use Rattle.recovering_machines.specs.declared.source.RecoveringSource.{RecoveringSource}

-- what its units read as in a stretch, and whether its guesses are said
abbrev pub reads_of : MappedSource → Bool → List Placed → Stream Packet
reads_of s = source.reads_of s.sure

abbrev pub kind_of : MappedSource → SourceKind
kind_of s = source.kind_of s.sure

abbrev pub guesses_of : MappedSource → Bool
guesses_of s = s.guesses

-- it stands for these stretches
abbrev pub Stands : MappedSource → Stretches → Type 0
Stands s r = source.Stands s.sure r

-- where its guesses are said, its guess follows them, whose units are before this offset
abbrev pub FollowsIf : Bool → Guess → RecoveringSource → ℕ → Stretches → Type 0
FollowsIf true g s at r = Follows g s at r
FollowsIf false g s at r = Unit {0}

abbrev pub Guesses : MappedSource → ℕ → Stretches → Type 0
Guesses s at r = FollowsIf s.guesses s.guess s.sure at r

-- what they read as, and what they say, with guesses or without
abbrev pub heard_by : MappedSource → Stretches → Stream (Heard Packet)
heard_by s r = source.heard_by s.sure r

abbrev pub said_by : MappedSource → Stretches → List (Said (Heard Packet) × Place)
said_by s r = said_of (reads_of s) from_fault s.guesses r

-- the stretches with the units of these cells
abbrev pub with_run : MappedSource → Stretches → List Cell → Stretches
with_run s r cells = runs.with_run s.sure r cells

-- how many units it holds and skipped, its guess too
abbrev pub total_of : MappedSource → ℕ
total_of s = source.total_of s.sure + guess_total s.guess

-- These cells were taken, and what they say was given, as events of this source. Their offsets rise, and are after
-- those of the stretches.
pub record TakesMapped {S : Type 0} (gets : S → List (Event (Heard Packet)) → S → Type 0) (room : S → ℕ) (id : ℕ)
    (cells : List Cell) (old new : MappedSource) (before after : S) : Type 0 where
  pub kind : kind_of new ≡ kind_of old
  pub reads : reads_of new ≡ reads_of old
  pub guesses : guesses_of new ≡ guesses_of old
  pub list : (r : Stretches) → Stands old r → Stands new (with_run old r cells)
  pub guess : (lo hi : ℕ) (r : Stretches) → CellsRise lo hi cells → Stands old r → Guesses old lo r →
      Guesses new hi (with_run old r cells)
  pub said : List (Said (Heard Packet) × Place)
  pub received : gets before (told (Some id) (lifted said)) after
  pub given : (lo hi : ℕ) (r : Stretches) → CellsRise lo hi cells → Stands old r → Guesses old lo r →
      said_by old (with_run old r cells) ≡ said_by old r ++ said
  pub space : room before ≤ room after + 2 * length cells
  pub few : total_of new ≤ total_of old + 6 * length cells

-- Its list was cut.
pub record IsCut (old new : MappedSource) : Type 0 where
  pub kind : kind_of new ≡ kind_of old
  pub reads : reads_of new ≡ reads_of old
  pub guesses : guesses_of new ≡ guesses_of old
  pub list : (r : Stretches) → Stands old r → Stands new (parted (reads_of old) from_fault r)
  pub guess : (at : ℕ) (r : Stretches) → Stands old r → Guesses old at r →
      Guesses new at (parted (reads_of old) from_fault r)
  pub given : (at : ℕ) (r : Stretches) → Stands old r → Guesses old at r →
      said_by old (parted (reads_of old) from_fault r) ≡ said_by old r
