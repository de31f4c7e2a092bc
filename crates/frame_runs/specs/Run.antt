-- The cells of a run.
use Rattle.std.specs.Prelude.{◌≡◌, ℕ, ◌<◌, ◌≤◌, List, length, Option}
use Rattle.source_events.specs.Runs.{id_of}
use Rattle.trace_values.specs.declared.cell.Cell.{Cell}
use Rattle.frame_runs.specs.declared.run.CellRun.{CellRun}

abbrev pub cells_of : CellRun → List Cell
cells_of run = run.cells.now

-- a run of one frame: the source of its cells
pub record IsRunOf (source : Option ℕ) (run : List Cell) : Type 0 where
  pub own : id_of run ≡ source
  pub some : 0 < length run
  pub few : length run ≤ 15
