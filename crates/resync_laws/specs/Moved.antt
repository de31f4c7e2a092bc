-- What is read of the same bytes at offsets that are greater by one number.
use Rattle.std.specs.Prelude.{ℕ, ◌+◌, List, map}
use Rattle.resync_laws.specs.Names.{later_fault, Cell, PortReading, Event}

-- the cells, the reading and the events there
abbrev pub later_cell : ℕ → Cell → Cell
later_cell c cell = record { at = cell.at + c; id = cell.id; run = cell.run; byte = cell.byte }

abbrev pub later_run : ℕ → List Cell → List Cell
later_run c run = map (λ cell. later_cell c cell) run

abbrev pub later_reading : ℕ → PortReading → PortReading
later_reading c r = record {
  frames = map (λ frame. later_run c frame) r.frames;
  fulls = r.fulls;
  halves = r.halves;
  fault = later_fault c r.fault;
  tail = r.tail;
  skipped = r.skipped;
  locked = r.locked;
}

abbrev pub later_event : {V : Type 0} → ℕ → Event V → Event V
later_event c e = record { at = e.at + c; half = e.half; source = e.source; what = e.what }
