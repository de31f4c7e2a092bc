-- A run of a source's bytes.
use Rattle.std.specs.Prelude.{◌≡◌, ℕ, ◌+◌, ◌*◌, ◌≤◌, List, ◌++◌, length, drop, take, map, flat_map, Some}
use Rattle.trace_values.specs.declared.cell.Cell.{Cell}
use Rattle.trace_values.specs.Placed.{Place, Placed}
use Rattle.trace_values.specs.Stream.{Said}
use Rattle.source_events.specs.declared.event.Event.{Event}
use Rattle.source_events.specs.declared.packet.Packet.{Packet}
use Rattle.source_events.specs.declared.plan.SourceKind.{SourceKind}
use Rattle.source_events.specs.Merge.{told}
use Rattle.source_events.specs.Report.{lifted}
use Rattle.source_machine.specs.Units.{units_at}
use Rattle.stretch_readings.specs.declared.heard.Heard.{Heard}
use Rattle.stretch_readings.specs.Stretches.{One, Stretches, fed_from, from_fault}
use Rattle.recovering_machines.specs.Source.{Stands, heard_by, kind_of, reads_of, total_of}
use Rattle.recovering_machines.specs.declared.source.RecoveringSource.{RecoveringSource}

-- its cells from one index up to another
abbrev pub between : ℕ → ℕ → List Cell → List Cell
between from to cells = drop from (take to cells)

-- the units of its cells
abbrev pub units_in : SourceKind → List Cell → List Placed
units_in kind cells = flat_map (λ c. units_at kind c.at c.byte) cells

-- the stretches with them
abbrev pub with_run : RecoveringSource → Stretches → List Cell → Stretches
with_run s r cells = fed_from (reads_of s) from_fault r (map One (units_in (kind_of s) cells))

-- There is no fault in these cells: the last stretch goes on with their units, and gives this more.
pub record GoesOn (s : RecoveringSource) (r : Stretches) (cells : List Cell) : Type 0 where
  pub list : with_run s r cells ≡ record {
    past = r.past;
    now = record {
      hunts = r.now.hunts;
      count = r.now.count;
      units = r.now.units ++ units_in (kind_of s) cells;
    };
  }
  pub more : List (Said Packet × Place)
  pub given : (reads_of s r.now.hunts (r.now.units ++ units_in (kind_of s) cells)).given
      ≡ (reads_of s r.now.hunts r.now.units).given ++ more

-- These cells were taken, and what they say was given, as events of this source.
pub record TakesRun {S : Type 0} (gets : S → List (Event (Heard Packet)) → S → Type 0) (room : S → ℕ) (id : ℕ)
    (cells : List Cell) (old new : RecoveringSource) (before after : S) : Type 0 where
  pub kind : kind_of new ≡ kind_of old
  pub reads : reads_of new ≡ reads_of old
  pub list : (r : Stretches) → Stands old r → Stands new (with_run old r cells)
  pub said : List (Said (Heard Packet) × Place)
  pub received : gets before (told (Some id) (lifted said)) after
  pub given : (r : Stretches) → Stands old r →
      (heard_by old (with_run old r cells)).given ≡ (heard_by old r).given ++ said
  pub space : room before ≤ room after + 2 * length cells
  pub few : total_of new ≤ total_of old + 4 * length cells
