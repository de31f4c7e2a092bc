-- What each source gives in the runs of frames, the least fault, and the report of a whole capture.
use Rattle.std.specs.Prelude.{◌≡◌, ℕ, List, [], ◌∷◌, ◌++◌, Bool, true, false, ◌==◌, ◌&&◌, ◌||◌, nat_lt, Option, None}
use Rattle.std.specs.Prelude.{Some}
use Rattle.std.specs.Prelude.{is_none, if◌then◌else◌, flat_map, map}
use Rattle.trace_values.specs.declared.cell.Cell.{Cell}
use Rattle.trace_values.specs.declared.fault.Reason.{Reason}
use Rattle.trace_values.specs.Placed.{Place, Placed, byte_at}
use Rattle.trace_values.specs.Stream.{Said, Notice, Kept, Stream, Rises, Settled}
use Rattle.frame_grammar.specs.Port.{PortItem}
use Rattle.frame_grammar.specs.Reading.{is_source}
use Rattle.trace_values.specs.declared.reading_modes.FramesMode.{FramesMode}
use Rattle.trace_values.specs.declared.reading_modes.FramesMode.TheVariants.{Hunt, Aligned, Bare}
use Rattle.deformatter.specs.Reading.{port_stream}
use Rattle.deformatter.specs.declared.step.PortStep.{PortStep}
use Rattle.deformatter.specs.declared.step.PortStep.TheVariants.{Locked as PortLocked}
use Rattle.deformatter.specs.PortReading.{PortReading, port_reading}
use Rattle.source_events.specs.declared.event.Event.{Event}
use Rattle.source_events.specs.declared.event.Stop.{Stop}
use Rattle.source_events.specs.declared.event.What.{What}
use Rattle.source_events.specs.declared.event.What.TheVariants.{Locked, Packet, Raw, Trigger}
use Rattle.source_events.specs.Runs.{id_of, bytes_of, last_at, list_of, all_runs}
use Rattle.source_events.specs.Merge.{told, merged_from, of_sources, cut}

-- a mapped source: its ID, and what its list of bytes reads as
pub record Mapped (V : Type 0) : Type 0 where
  pub id : ℕ
  pub stream : List Placed → Stream V

-- what a mapped source gives: the notice of its lock, before the packet of the same place, and its packets
abbrev pub what_of : {V : Type 0} → Said V → What V
what_of (Notice skipped) = Locked skipped
what_of (Kept v) = Packet v

abbrev pub lifted : {V : Type 0} → List (Said V × Place) → List (What V × Place)
lifted given = map (λ e. (what_of e.0, e.1)) given

-- of the trigger source, each byte is an event (CoreSight Architecture Specification, Arm IHI 0029E (version 3.0),
-- chapter 'Trace Formatter', triggers by ID 0x7D; that each byte is one event is this project's profile)
abbrev pub triggers : {V : Type 0} → List Cell → List (What V × Place)
triggers run = map (λ c. (Trigger c.byte, record { at = c.at; half = 0 })) run

-- What a run gives where its source is not mapped: its bytes as one event, at the last of them; of the trigger source,
-- 125, an event for each byte; of the null source, 0, nothing.
abbrev pub raw_events : {V : Type 0} → ℕ → List Cell → List (What V × Place)
raw_events x run =
    if x == 0 then [] else if x == 125 then triggers run
    else (Raw (bytes_of run), record { at = last_at run; half = 0 }) ∷ []

abbrev pub raws : {V : Type 0} → ℕ → List (List Cell) → List (What V × Place)
raws x runs = flat_map (λ run. if is_source x (id_of run) then raw_events x run else []) runs

-- what a source gives in these runs
abbrev pub events : {V : Type 0} → List (Mapped V) → ℕ → List (List Cell) → List (What V × Place)
events [] x runs = raws x runs
events (s ∷ ss) x runs = if x == s.id then lifted (s.stream (list_of x runs)).given else events ss x runs

-- the fault of the lesser place
abbrev pub is_less : Place → Place → Bool
is_less p q = nat_lt p.at q.at || (p.at == q.at && nat_lt p.half q.half)

abbrev pub lesser : {F : Type 0} → Option (Place × F) → Option (Place × F) → Option (Place × F)
lesser None g = g
lesser (Some f) None = Some f
lesser (Some f) (Some g) = if is_less g.0 f.0 then Some g else Some f

-- a fault with its source; the port has none
abbrev pub of_source : Option ℕ → Option (Place × Reason) → Option (Place × (Reason × Option ℕ))
of_source x None = None
of_source x (Some f) = Some (f.0, (f.1, x))

-- the least fault of the mapped sources in these runs
abbrev pub least_fault : {V : Type 0} → List (Mapped V) → List (List Cell) → Option (Place × (Reason × Option ℕ))
least_fault [] runs = None
least_fault (s ∷ ss) runs =
    lesser (of_source (Some s.id) (s.stream (list_of s.id runs)).fault) (least_fault ss runs)

-- all events of the sources in these runs, in order, and those before their least fault
abbrev pub all_events : {V : Type 0} → List (Mapped V) → List (List Cell) → List (Event V)
all_events ss runs = merged_from id_of (of_sources (events ss)) [] runs

abbrev pub reported : {V : Type 0} → List (Mapped V) → List (List Cell) → List (Event V)
reported ss runs = cut (least_fault ss runs) (all_events ss runs)

-- what the port gives: where its reading is hunted, the notice of its lock, at the last byte of the full
-- synchronisation with which the reading begins
abbrev pub lock_at : {V : Type 0} → ℕ → List (PortItem × Place) → List (What V × Place)
lock_at skipped [] = []
lock_at skipped (first ∷ items) = (Locked skipped, first.1) ∷ []

abbrev pub port_events : {V : Type 0} → FramesMode → List Placed → List (What V × Place)
port_events Hunt u = let s = port_stream true u in lock_at s.skipped s.items
port_events Aligned u = []
port_events Bare u = []

-- what a step of the port gives at this offset
abbrev pub notice_by : {V : Type 0} → ℕ → PortStep → List (What V × Place)
notice_by at (PortLocked skipped) = (Locked skipped, record { at = at; half = 0 }) ∷ []
notice_by at step = []

-- the runs of all frames of a port's reading
abbrev pub runs_in : PortReading → List (List Cell)
runs_in r = all_runs r.frames

-- the fault of the least place among the port's and all sources'
abbrev pub stop_in : {V : Type 0} → List (Mapped V) → PortReading → Option (Place × (Reason × Option ℕ))
stop_in ss r = lesser (of_source None r.fault) (least_fault ss (runs_in r))

-- all events of a capture's bytes, in order
abbrev pub capture_events : {V : Type 0} → List (Mapped V) → FramesMode → List Placed → List (Event V)
capture_events ss mode u = told None (port_events mode u) ++ all_events ss (runs_in (port_reading mode u))

-- what the port gives in a capture's bytes, and what each source gives
abbrev pub given_in : {V : Type 0} → List (Mapped V) → FramesMode → List Placed → Option ℕ → List (What V × Place)
given_in ss mode u None = port_events mode u
given_in ss mode u (Some x) = events ss x (runs_in (port_reading mode u))

-- The events of the report: those before the fault.
abbrev pub report : {V : Type 0} → List (Mapped V) → FramesMode → List Placed → List (Event V)
report ss mode u = cut (stop_in ss (port_reading mode u)) (capture_events ss mode u)

-- a stop, as a report has its fault
abbrev pub stop_of : Stop → Place × (Reason × Option ℕ)
stop_of s = (record { at = s.fault.at; half = s.fault.half }, (s.fault.reason, s.source))

-- an event that is no notice of a lock
abbrev pub is_item : {V : Type 0} → What V → Bool
is_item (Locked skipped) = false
is_item x = true

-- what is asked of a source's reading: nothing is read of no bytes, it grows at its last byte, and a fault ends it
pub record IsLawful {V : Type 0} (stream : List Placed → Stream V) : Type 0 where
  pub begins : (stream []).given ≡ []
  pub sound : (stream []).fault ≡ None
  pub rises : (u : List Placed) (at byte : ℕ) → Rises (stream u) (stream (u ++ byte_at at byte ∷ [])) at
  pub settles : (u w : List Placed) → is_none (stream u).fault ≡ false → Settled (stream u) (stream (u ++ w))

abbrev pub AreLawful : {V : Type 0} → List (Mapped V) → Type 0
AreLawful [] = Unit {0}
AreLawful (s ∷ ss) = IsLawful s.stream × AreLawful ss
