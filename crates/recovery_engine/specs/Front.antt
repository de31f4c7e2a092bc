-- What a recovering engine takes of the front of a piece.
use Rattle.std.specs.Prelude.{◌≡◌, ◌≢◌, ◌<◌, ◌≤◌, ℕ, ◌+◌, ◌*◌, List, [], ◌∷◌, ◌++◌, length, map, take}
use Rattle.trace_values.specs.Placed.{Placed, placed_from}
use Rattle.trace_values.specs.declared.reading_modes.FramesMode.{FramesMode}
use Rattle.trace_values.specs.declared.reading_modes.FramesMode.TheVariants.{Bare}
use Rattle.deformatter.specs.Rising.{BytesRise, end_at}
use Rattle.frame_grammar.specs.Frame.{cells}
use Rattle.frame_grammar.specs.Reading.{offsets_of}
use Rattle.frame_grammar.specs.declared.frame.TheConstants.{FRAME_BYTES}
use Rattle.frame_grammar.specs.declared.gather.PlacedFrame.{PlacedFrame}
use Rattle.frame_runs.specs.Gathered.{IsGathered, frame_places}
use Rattle.source_events.specs.declared.event.Event.{Event}
use Rattle.source_events.specs.declared.packet.Packet.{Packet}
use Rattle.source_events.specs.Runs.{runs_of}
use Rattle.stretch_readings.specs.declared.heard.Heard.{Heard}
use Rattle.recovering_machines.specs.Port as ports
use Rattle.recovering_machines.specs.declared.port.RecoveringPort.{RecoveringPort}
use Rattle.recovery_report.specs.Port.{recovered}
use Rattle.recovery_report.specs.Report.{Part, Run, parts_in, report_with}
use Rattle.recovery_engine.specs.Counting.{HasCounted}
use Rattle.recovery_engine.specs.Engine.{Stands, guesses_of, next_of, plan_of}
use Rattle.recovery_engine.specs.Heard.{AreSound, AreUnread}
use Rattle.recovery_engine.specs.Port.{PortStands}
use Rattle.recovery_engine.specs.declared.counts.PortTotals.{PortTotals}
use Rattle.recovery_engine.specs.declared.engine.Recovery.{Recovery}

-- All but the last of these bytes, which follow u from this offset on, add nothing to the parts of a capture.
pub record EndsLast (mode : FramesMode) (u : List Placed) (at : ℕ) (bytes : List ℕ) : Type 0 where
  pub front : List ℕ
  pub last : ℕ
  pub are : bytes ≡ front ++ last ∷ []
  pub quiet : parts_in (recovered mode (u ++ placed_from at front)) ≡ parts_in (recovered mode u)

-- It took this many bytes of the piece, the first of which is at this offset, and stands for them after what it stood
-- for. With a formatter all but the last of them add nothing. The events that the report grows by with them, with
-- guesses or without, were given.
pub record TakesFront {S : Type 0} (gets : S → List (Event (Heard Packet)) → S → Type 0) (left : S → ℕ)
    (at : ℕ) (piece : List ℕ) (taken : ℕ) (old new : Recovery × S) : Type 0 where
  pub bytes : (0 < taken) × (taken ≤ length piece)
  pub plan : plan_of new.0 ≡ plan_of old.0
  pub guesses : guesses_of new.0 ≡ guesses_of old.0
  pub next : next_of new.0 ≡ at + taken
  pub list : (u : List Placed) → Stands old.0 u → Stands new.0 (u ++ placed_from at (take taken piece))
  pub given : (given : List (Event (Heard Packet))) × gets old.1 given new.1 × ((u : List Placed) → Stands old.0 u →
      report_with (guesses_of old.0) (plan_of old.0) (u ++ placed_from at (take taken piece))
      ≡ report_with (guesses_of old.0) (plan_of old.0) u ++ given)
  pub late : (plan_of old.0).frames ≢ Bare → (u : List Placed) → Stands old.0 u →
      EndsLast (plan_of old.0).frames u at (take taken piece)
  pub room : left old.1 ≤ left new.1 + 30 * taken

-- It took this many bytes of the piece, as above, and none of the events that the report grows by is a packet or a
-- fault.
abbrev pub CountsFront : ℕ → List ℕ → ℕ → Recovery → Recovery → Type 0
CountsFront at piece taken old new =
    TakesFront {S = Unit {0}} (λ s given t. AreUnread given × AreSound given) (λ s. 0) at piece taken (old, tt)
    (new, tt)

-- what an engine keeps beside its sources
pub record Kept : Type 0 where
  pub port : RecoveringPort
  pub totals : PortTotals
  pub count : ℕ
  pub next : ℕ

abbrev pub kept_by : Recovery → Kept
kept_by e = record { port = e.port; totals = e.totals; count = e.count; next = e.next }

-- After the bytes v an engine that stood for u keeps this, and its parts grew by these.
pub record Adds (old : Recovery) (now : Kept) (more : List Part) (u v : List Placed) : Type 0 where
  pub port_is : PortStands old.plan.frames now.port v
  pub counted : old.plan.frames ≢ Bare → HasCounted now.totals (recovered old.plan.frames v)
  pub count_is : now.count ≡ length v
  pub next_is : now.next ≡ end_at 0 (offsets_of v)
  pub rising : BytesRise 0 now.next v
  pub parts : parts_in (recovered old.plan.frames v) ≡ parts_in (recovered old.plan.frames u) ++ more

-- Its port passed over a whole frame, which is counted; its sources are as before.
pub record PassesGathered (frame : PlacedFrame) (old new : Recovery) : Type 0 where
  pub plan : plan_of new ≡ plan_of old
  pub guesses : guesses_of new ≡ guesses_of old
  pub slots : new.slots ≡ old.slots
  pub count : new.count ≡ old.count + (FRAME_BYTES + 2 * frame.halves)
  pub next : next_of new ≡ frame.at + (FRAME_BYTES + 2 * frame.halves)
  pub adds : (u : List Placed) (w : List ℕ) → Stands old u → IsGathered frame.at w frame →
      Adds old (kept_by new) (map Run (runs_of (cells frame.bytes (frame_places frame) (ports.id_of old.port))))
      u (u ++ placed_from frame.at w)
  pub late : (u : List Placed) (w : List ℕ) → Stands old u → IsGathered frame.at w frame →
      EndsLast (plan_of old).frames u frame.at w
