-- What an engine stands for, and what it shows.
use Rattle.std.specs.Prelude.{◌≡◌, ◌≢◌, ℕ, List, length, Bool, true, false, is_none}
use Rattle.trace_values.specs.Placed.{Placed}
use Rattle.trace_values.specs.declared.reading_modes.FramesMode.TheVariants.{Bare}
use Rattle.frame_grammar.specs.Reading.{offsets_of}
use Rattle.deformatter.specs.Rising.{BytesRise, end_at}
use Rattle.source_events.specs.declared.plan.Plan.{Plan}
use Rattle.recovery_engine.specs.Engine as recovery
use Rattle.recovery_laws.specs.Strict.{HasAsStrict}
use Rattle.source_merge.specs.declared.engine.Engine.{Engine}
use Rattle.source_merge.specs.Answering.{fault_of}
use Rattle.source_merge.specs.Counting.{HasItems, maps_none}

-- what it reads by
abbrev pub plan_of : Engine → Plan
plan_of engine = recovery.plan_of engine.recovery

-- its report has no fault so far
abbrev pub is_live : Engine → Bool
is_live engine = engine.live

-- one more than the last offset that was fed, and 0 at first
abbrev pub next_of : Engine → ℕ
next_of engine = engine.next

-- It has read these bytes, whose offsets rise. It is live exactly where their report has no fault. While it is live,
-- what goes on after faults stands for them, and with a formatter at a fault, too: its port then has the frame that the
-- fault is in. Where a source is mapped it has counted the items of the report, which has the events before the fault.
pub record Stands (engine : Engine) (u : List Placed) : Type 0 where
  pub rising : BytesRise 0 (end_at 0 (offsets_of u)) u
  pub next : engine.next ≡ end_at 0 (offsets_of u)
  pub count : engine.count ≡ length u
  pub live : engine.live ≡ is_none (fault_of (plan_of engine) u)
  pub items : maps_none (plan_of engine) ≡ false → HasItems engine.items (plan_of engine) u
  pub going : engine.live ≡ true → recovery.Stands engine.recovery u
  pub framed : (plan_of engine).frames ≢ Bare →
      recovery.Stands engine.recovery u × HasAsStrict (plan_of engine).frames u
