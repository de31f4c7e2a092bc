-- How a capture ends, and how much came.
use Rattle.std.specs.Prelude.{ℕ, List, [], ◌∷◌, ◌&&◌, length, Bool, true, false, Option, None, Some}
use Rattle.std.specs.List.{count_by, flat_map, range_with_len}
use Rattle.trace_values.specs.declared.limits.TheConstants.{ID_COUNT}
use Rattle.trace_values.specs.Placed.{Placed}
use Rattle.trace_values.specs.declared.reading_modes.FramesMode.{FramesMode}
use Rattle.trace_values.specs.declared.reading_modes.FramesMode.TheVariants.{Hunt as FramesHunt}
use Rattle.trace_values.specs.declared.reading_modes.FramesMode.TheVariants.{Aligned as FramesAligned}
use Rattle.trace_values.specs.declared.reading_modes.FramesMode.TheVariants.{Bare as FramesBare}
use Rattle.trace_values.specs.declared.reading_modes.PacketsMode.{PacketsMode}
use Rattle.trace_values.specs.declared.reading_modes.PacketsMode.TheVariants.{Hunt as PacketsHunt}
use Rattle.trace_values.specs.declared.reading_modes.PacketsMode.TheVariants.{Aligned as PacketsAligned}
use Rattle.deformatter.specs.PortReading.{PortReading, port_reading}
use Rattle.source_counts.specs.Counts.{bytes_of, unattributed_of}
use Rattle.source_counts.specs.declared.counts.Counts.{Counts}
use Rattle.source_events.specs.declared.plan.Plan.{Plan}
use Rattle.source_events.specs.declared.plan.SourceKind.{SourceKind}
use Rattle.source_events.specs.declared.port_mode.PortMode.{PortMode}
use Rattle.source_events.specs.declared.port_mode.PortMode.TheVariants.{Bare, Aligned, Locked, Hunting}
use Rattle.source_events.specs.declared.tails.PortCounts.{PortCounts}
use Rattle.source_events.specs.declared.tails.SourceTail.{SourceTail}
use Rattle.source_events.specs.declared.tails.Tails.{Tails}
use Rattle.source_events.specs.Runs.{list_of}
use Rattle.source_events.specs.declared.event.Event.{Event}
use Rattle.source_events.specs.declared.packet.Packet.{Packet}
use Rattle.source_events.specs.Merge.{is_of}
use Rattle.source_events.specs.Report.{runs_in, report, is_item}
use Rattle.source_events.specs.Plan.{stream_of, kind_of, sources_by}

-- how a port that is read so was read, which has locked or not
abbrev pub port_mode : FramesMode → Bool → PortMode
port_mode FramesBare locked = Bare
port_mode FramesAligned locked = Aligned
port_mode FramesHunt true = Locked
port_mode FramesHunt false = Hunting

-- and a source whose packets are read so
abbrev pub packets_mode : PacketsMode → Bool → PortMode
packets_mode PacketsAligned locked = Aligned
packets_mode PacketsHunt locked = port_mode FramesHunt locked

-- how a mapped source of this kind was read
abbrev pub tail_of : Plan → PortReading → ℕ → SourceKind → SourceTail
tail_of plan r x kind = let s = stream_of plan kind (list_of x (runs_in r)) in record {
  id = x;
  kind = kind;
  mode = packets_mode plan.packets s.locked;
  skipped = s.skipped;
  tail = s.held;
}

-- the same of a source: nothing where it is not mapped
abbrev pub tail_by : Plan → PortReading → ℕ → Option SourceKind → List SourceTail
tail_by plan r x None = []
tail_by plan r x (Some kind) = tail_of plan r x kind ∷ []

-- of all mapped sources among the first `ids` IDs, in increasing order
unfoldable pub source_tails : Plan → PortReading → ℕ → List SourceTail
source_tails plan r ids = flat_map (λ x. tail_by plan r x (kind_of plan x)) (range_with_len 0 ids)

-- how a capture of these bytes ends
abbrev pub tails_of : Plan → List Placed → Tails
tails_of plan u = let r = port_reading plan.frames u in record {
  bytes = length u;
  mode = port_mode plan.frames r.locked;
  skipped = r.skipped;
  tail = r.tail;
  unattributed = unattributed_of r.frames;
  sources = source_tails plan r ID_COUNT;
}

-- how many synchronisations and frames it has
abbrev pub port_counts_of : Plan → List Placed → PortCounts
port_counts_of plan u = let r = port_reading plan.frames u in record {
  fulls = r.fulls;
  halves = r.halves;
  frames = length r.frames;
}

-- how many events of a source these are, notices aside
abbrev pub items_in : ℕ → List (Event Packet) → ℕ
items_in x es = count_by (λ e. is_of (Some x) e.source && is_item e.what) es

-- how many bytes a source has, and how many events of it the report has
abbrev pub source_counts_of : Plan → List Placed → ℕ → Counts
source_counts_of plan u x = record {
  bytes = bytes_of x (port_reading plan.frames u).frames;
  items = items_in x (report (sources_by plan) plan.frames u);
}
