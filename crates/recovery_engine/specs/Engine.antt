-- What a recovering engine stands for.
use Rattle.std.specs.Prelude.{◌≡◌, ◌≢◌, ℕ, List, Bool, length}
use Rattle.trace_values.specs.Placed.{Placed}
use Rattle.trace_values.specs.declared.reading_modes.FramesMode.TheVariants.{Bare}
use Rattle.frame_grammar.specs.Reading.{offsets_of}
use Rattle.deformatter.specs.Rising.{BytesRise, end_at}
use Rattle.source_events.specs.declared.plan.Plan.{Plan}
use Rattle.recovery_report.specs.Port.{recovered}
use Rattle.recovery_report.specs.Report.{parts_in}
use Rattle.recovery_engine.specs.Counting.{HasCounted}
use Rattle.recovery_engine.specs.Port.{PortStands}
use Rattle.recovery_engine.specs.Slots.{StandFor}
use Rattle.recovery_engine.specs.declared.engine.Recovery.{Recovery}

-- what it reads by, and whether it gives guesses
abbrev pub plan_of : Recovery → Plan
plan_of e = e.plan

abbrev pub guesses_of : Recovery → Bool
guesses_of e = e.guesses

-- one more than the last offset that it has read, and 0 at first
abbrev pub next_of : Recovery → ℕ
next_of e = e.next

-- It has read these bytes, whose offsets rise: its port and its sources stand for what they are in the recovering
-- report, and it has counted what the port's stretches have. With no formatter all that is counted is the bytes.
pub record Stands (e : Recovery) (u : List Placed) : Type 0 where
  pub port : PortStands e.plan.frames e.port u
  pub sources : StandFor e.guesses e.plan (parts_in (recovered e.plan.frames u)) e.slots.items
  pub counted : e.plan.frames ≢ Bare → HasCounted e.totals (recovered e.plan.frames u)
  pub count : e.count ≡ length u
  pub next : e.next ≡ end_at 0 (offsets_of u)
  pub rising : BytesRise 0 e.next u
