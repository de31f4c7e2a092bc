-- What the engine that goes on after faults gives up to the first one.
use Rattle.std.specs.Prelude.{◌≡◌, ◌≢◌, ◌<◌, ◌≤◌, ℕ, ◌+◌, ◌*◌, List, ◌++◌, length, max, take, Option}
use Rattle.std.specs.Option.{option_map}
use Rattle.trace_values.specs.Placed.{Placed, placed_from}
use Rattle.trace_values.specs.declared.reading_modes.FramesMode.{FramesMode}
use Rattle.trace_values.specs.declared.reading_modes.FramesMode.TheVariants.{Hunt, Aligned, Bare}
use Rattle.source_events.specs.Report.{stop_of}
use Rattle.source_events.specs.declared.event.Event.{Event}
use Rattle.source_events.specs.declared.event.Stop.{Stop}
use Rattle.source_events.specs.declared.packet.Packet.{Packet}
use Rattle.stretch_readings.specs.declared.heard.Heard.{Heard}
use Rattle.recovery_report.specs.Report.{report}
use Rattle.recovery_engine.specs.Engine as recovery
use Rattle.recovery_engine.specs.Front.{EndsLast}
use Rattle.recovery_engine.specs.declared.engine.Recovery.{Recovery}
use Rattle.recovery_engine.specs.declared.per_source.PerSource.{PerSource}
use Rattle.recovery_laws.specs.Strict.{first_fault, upto}
use Rattle.source_merge.specs.Counting.{CountsFew}

-- how many events come of a piece of this length at most: with a formatter those of one frame
abbrev pub most_of : FramesMode → ℕ → ℕ
most_of Bare n = max 30 (2 * n)
most_of Hunt n = 30
most_of Aligned n = 30

-- A recovering engine took this many bytes of the piece, the first of which is at this offset. A receiver, with its
-- place, was given the events up to the first fault that came with them, which were counted, and that fault was kept.
pub record HearsFront {S : Type 0} (gets : S → List (Event Packet) → S → Type 0) (left : S → ℕ)
    (at : ℕ) (piece : List ℕ) (taken : ℕ) (old new : (Recovery × PerSource) × S) (stop : Option Stop)
    (given : List (Event (Heard Packet))) : Type 0 where
  pub bytes : (0 < taken) × (taken ≤ length piece)
  pub plan : recovery.plan_of new.0.0 ≡ recovery.plan_of old.0.0
  pub guesses : recovery.guesses_of new.0.0 ≡ recovery.guesses_of old.0.0
  pub next : recovery.next_of new.0.0 ≡ at + taken
  pub list : (u : List Placed) → recovery.Stands old.0.0 u →
      recovery.Stands new.0.0 (u ++ placed_from at (take taken piece))
  pub late : (recovery.plan_of old.0.0).frames ≢ Bare → (u : List Placed) → recovery.Stands old.0.0 u →
      EndsLast (recovery.plan_of old.0.0).frames u at (take taken piece)
  pub got : gets old.1 (upto given) new.1
  pub fault : option_map stop_of stop ≡ first_fault given
  pub counted : CountsFew old.0.1 new.0.1 (30 * taken) (upto given)
  pub space : left old.1 ≤ left new.1 + most_of (recovery.plan_of old.0.0).frames (length piece)
  pub grew : (u : List Placed) → recovery.Stands old.0.0 u →
      report (recovery.plan_of old.0.0) (u ++ placed_from at (take taken piece))
      ≡ report (recovery.plan_of old.0.0) u ++ given

-- The same, where these events are not said.
abbrev pub Hears : {S : Type 0} → (S → List (Event Packet) → S → Type 0) → (S → ℕ) → ℕ → List ℕ → ℕ →
    (Recovery × PerSource) × S → (Recovery × PerSource) × S → Option Stop → Type 0
Hears gets left at piece taken old new stop =
    (given : List (Event (Heard Packet))) × HearsFront gets left at piece taken old new stop given
