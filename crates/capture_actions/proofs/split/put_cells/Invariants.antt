use Rattle.std.proofs.Common.{◌≡◌, ◌+◌, ◌≤◌, ◌++◌, length, take}
use Rattle.capture_actions.specs.Split.{bytes_of_id}
use Rattle.capture_actions.proofs.split.put_cells.Given as goal

abbrev pub invariant-loop-cell : goal.invariant-loop-cell
invariant-loop-cell l = record {
  so_far : l.outlet ≡ l.initial.outlet ++ bytes_of_id l.id (take l.cell-index l.cells);
  room : length l.outlet ≤ length l.initial.outlet + l.cell-index;
}
