-- The recovering report of a capture.
use Rattle.std.specs.Prelude.{ℕ, List, [], ◌∷◌, ◌++◌, map, filter, flat_map, length, Bool, true, false, not}
use Rattle.std.specs.Prelude.{Option, None, Some, if◌then◌else◌}
use Rattle.std.specs.List.{range_with_len}
use Rattle.trace_values.specs.declared.cell.Cell.{Cell}
use Rattle.trace_values.specs.declared.fault.Reason.{Reason}
use Rattle.trace_values.specs.declared.limits.TheConstants.{ID_COUNT}
use Rattle.trace_values.specs.Placed.{Place, Placed}
use Rattle.trace_values.specs.Stream.{Said as SaidOf, Stream}
use Rattle.frame_grammar.specs.Port.{PortItem}
use Rattle.frame_grammar.specs.Reading.{is_source}
use Rattle.trace_values.specs.ReadingModes.{packets_hunt}
use Rattle.trace_values.specs.declared.reading_modes.FramesMode.{FramesMode}
use Rattle.trace_values.specs.declared.reading_modes.FramesMode.TheVariants.{Bare as FramesBare}
use Rattle.source_counts.specs.Counts.{unattributed_of}
use Rattle.source_events.specs.declared.event.Event.{Event}
use Rattle.source_events.specs.declared.event.What.{What}
use Rattle.source_events.specs.declared.event.What.TheVariants.{Locked, Packet as Said}
use Rattle.source_events.specs.declared.packet.Packet.{Packet}
use Rattle.source_events.specs.declared.plan.Plan.{Plan}
use Rattle.source_events.specs.declared.plan.SourceKind.{SourceKind}
use Rattle.source_events.specs.declared.port_mode.PortMode.{PortMode}
use Rattle.source_events.specs.declared.port_mode.PortMode.TheVariants.{Bare, Aligned, Locked as IsLocked, Hunting}
use Rattle.source_events.specs.declared.tails.SourceTail.{SourceTail}
use Rattle.source_events.specs.declared.tails.Tails.{Tails}
use Rattle.source_events.specs.Merge.{grown, merged_from}
use Rattle.source_events.specs.Plan.{kind_of}
use Rattle.source_events.specs.Report.{lifted, raws}
use Rattle.source_events.specs.Runs.{id_of, all_runs}
use Rattle.stretch_readings.specs.declared.heard.Heard.{Heard}
use Rattle.stretch_readings.specs.declared.heard.Heard.TheVariants.{Broken}
use Rattle.recovering_machines.specs.Hearing.{is_guess}
use Rattle.recovering_machines.specs.Run.{units_in}
use Rattle.source_machine.specs.Units.{reads_by}
use Rattle.stretch_readings.specs.Guessing.{said_of}
use Rattle.stretch_readings.specs.Stretches.{Fed, One, Mark, Stretches, stretches, from_fault, heard_of}
use Rattle.recovery_report.specs.Port.{PortStretch, PortStretches, recovered, all_of, frames_of, skipped_of}

-- A part of a capture: a run of a frame, a lock of the port, or a fault of the port, which cuts all sources.
pub data Part : Type 0 where
  Run : List Cell → Part
  Locks : ℕ → Place → Part
  Breaks : Reason → Place → Part

abbrev pub lock_of : List (PortItem × Place) → ℕ → List Part
lock_of [] skipped = []
lock_of (first ∷ items) skipped = Locks skipped first.1 ∷ []

abbrev pub break_of : Option (Place × Reason) → List Part
break_of None = []
break_of (Some f) = Breaks f.1 f.0 ∷ []

-- those of a stretch, and of all, in order
abbrev pub parts_of : PortStretch → List Part
parts_of s =
    (if s.hunts then lock_of s.items.items s.skipped else [])
    ++ (map Run (all_runs s.reading.frames) ++ break_of s.reading.fault)

abbrev pub parts_in : PortStretches → List Part
parts_in r = flat_map parts_of (all_of r)

-- what parts feed a source of this kind: the units of its runs, and a mark where the port has a fault
abbrev pub fed_by : SourceKind → ℕ → Part → List Fed
fed_by kind x (Run run) = if is_source x (id_of run) then map One (units_in kind run) else []
fed_by kind x (Locks skipped place) = []
fed_by kind x (Breaks reason place) = Mark ∷ []

abbrev pub list_of : SourceKind → ℕ → List Part → List Fed
list_of kind x parts = flat_map (fed_by kind x) parts

-- the stretches of a mapped source, and what they read as
abbrev pub stretches_of : Plan → SourceKind → ℕ → List Part → Stretches
stretches_of plan kind x parts =
    stretches (reads_by plan.order kind) from_fault (packets_hunt plan.packets) (list_of kind x parts)

abbrev pub stream_of : Plan → SourceKind → ℕ → List Part → Stream (Heard Packet)
stream_of plan kind x parts = heard_of (reads_by plan.order kind) from_fault (stretches_of plan kind x parts)

-- the runs of parts
abbrev pub run_in : Part → List (List Cell)
run_in (Run run) = run ∷ []
run_in (Locks skipped place) = []
run_in (Breaks reason place) = []

-- what a mapped source says in parts, with its guesses or without
abbrev pub said_in : Bool → Plan → SourceKind → ℕ → List Part → List (SaidOf (Heard Packet) × Place)
said_in guesses plan kind x parts =
    said_of (reads_by plan.order kind) from_fault guesses (stretches_of plan kind x parts)

-- what a source says in parts
abbrev pub events_by : Bool → Plan → Option SourceKind → ℕ → List Part → List (What (Heard Packet) × Place)
events_by guesses plan None x parts = raws x (flat_map run_in parts)
events_by guesses plan (Some kind) x parts = lifted (said_in guesses plan kind x parts)

-- what the port says in a part: a lock, or a fault
abbrev pub port_said : Part → List (What (Heard Packet) × Place)
port_said (Run run) = []
port_said (Locks skipped place) = (Locked skipped, place) ∷ []
port_said (Breaks reason place) = (Said (Broken reason), place) ∷ []

-- what the port says in parts, and what each source says
abbrev pub said_by : Bool → Plan → Option ℕ → List Part → List (What (Heard Packet) × Place)
said_by guesses plan None parts = flat_map port_said parts
said_by guesses plan (Some x) parts = events_by guesses plan (kind_of plan x) x parts

-- Whose a part is: a source's, or the port's. In a run of no source the port says nothing.
abbrev pub whose : Part → Option ℕ
whose (Run run) = id_of run
whose (Locks skipped place) = None
whose (Breaks reason place) = None

-- the events of a capture, in order, with guesses or without
abbrev pub report_with : Bool → Plan → List Placed → List (Event (Heard Packet))
report_with guesses plan u = merged_from whose (said_by guesses plan) [] (parts_in (recovered plan.frames u))

abbrev pub report : Plan → List Placed → List (Event (Heard Packet))
report plan u = report_with false plan u

-- what one more part adds, and the events of parts after others
abbrev pub added : Bool → Plan → List Part → Part → List (Event (Heard Packet))
added guesses plan before m = grown (said_by guesses plan) before m (whose m)

abbrev pub report_from : Bool → Plan → List Part → List Part → List (Event (Heard Packet))
report_from guesses plan before ms = merged_from whose (said_by guesses plan) before ms

-- those of these events that are no guesses
abbrev pub sure_events : List (Event (Heard Packet)) → List (Event (Heard Packet))
sure_events es = filter (λ e. not (is_guess e.what)) es

-- how the last stretch was read
abbrev pub mode_by : Bool → Bool → PortMode
mode_by false locked = Aligned
mode_by true true = IsLocked
mode_by true false = Hunting

abbrev pub port_mode : FramesMode → PortStretches → PortMode
port_mode FramesBare r = Bare
port_mode mode r = mode_by r.now.hunts r.now.reading.locked

-- how a mapped source ends
abbrev pub tail_of : Plan → List Part → ℕ → SourceKind → SourceTail
tail_of plan parts x kind = let s = stream_of plan kind x parts in record {
  id = x;
  kind = kind;
  mode = mode_by (stretches_of plan kind x parts).now.hunts s.locked;
  skipped = s.skipped;
  tail = s.held;
}

abbrev pub tail_by : Plan → List Part → ℕ → Option SourceKind → List SourceTail
tail_by plan parts x None = []
tail_by plan parts x (Some kind) = tail_of plan parts x kind ∷ []

unfoldable pub source_tails : Plan → List Part → ℕ → List SourceTail
source_tails plan parts ids = flat_map (λ x. tail_by plan parts x (kind_of plan x)) (range_with_len 0 ids)

-- how a capture ends
abbrev pub tails_of : Plan → List Placed → Tails
tails_of plan u = let r = recovered plan.frames u in record {
  bytes = length u;
  mode = port_mode plan.frames r;
  skipped = skipped_of r;
  tail = r.now.reading.tail;
  unattributed = unattributed_of (frames_of r);
  sources = source_tails plan (parts_in r) ID_COUNT;
}
