-- What cells of a source that is not mapped are in the report, each of which is a run of its own.
use Rattle.std.specs.Prelude.{ℕ, List, [], ◌∷◌, flat_map, Some}
use Rattle.trace_values.specs.declared.cell.Cell.{Cell}
use Rattle.source_events.specs.declared.event.Event.{Event}
use Rattle.source_events.specs.declared.packet.Packet.{Packet}
use Rattle.source_events.specs.Merge.{told}
use Rattle.source_events.specs.Report.{raw_events}
use Rattle.stretch_readings.specs.declared.heard.Heard.{Heard}

abbrev pub raw_each : ℕ → List Cell → List (Event (Heard Packet))
raw_each x cells = flat_map (λ c. told (Some x) (raw_events x (c ∷ []))) cells
