-- What the action of `check` with kinds stands for, and what it owes.
use Rattle.std.specs.Prelude.{◌≡◌, ℕ, List, [], Option, None, Some}
use Rattle.capture_actions.specs.Names.{placed, Plan, Stop, stop_of, report_of, Debt}
use Rattle.capture_actions.specs.Names.{tails_text, fault_line}
use Rattle.source_events.specs.declared.tails.Tails.{Tails}
use Rattle.capture_actions.specs.CaptureReading as readings
use Rattle.capture_actions.specs.Faulty.{is_stp, read_of}
use Rattle.capture_actions.specs.KindCounts.{HasCounted}
use Rattle.capture_actions.specs.KindLines.{owed}
use Rattle.capture_actions.specs.declared.kind_check.KindCheck.{KindCheck}

-- what it was asked for
abbrev pub plan_of : KindCheck → Plan
plan_of check = readings.plan_of check.reading

-- it has read these bytes, none of which is after the fault, and has counted the events of their report
pub record Stands (check : KindCheck) (seen : List ℕ) : Type 0 where
  pub reading : readings.Stands check.reading seen
  pub read : read_of (plan_of check) seen ≡ seen
  pub kinds : HasCounted check.kinds (report_of (plan_of check) (placed seen))

-- how many bytes it took
abbrev pub taken_by : KindCheck → ℕ
taken_by check = readings.taken_by check.reading

abbrev pub IsLive : KindCheck → Type 0
IsLive check = readings.IsLive check.reading

-- what comes after the lines of all sources
abbrev pub last_by : Plan → Option Stop → Option Tails → List ℕ
last_by plan (Some stop) tails = fault_line (is_stp plan stop.source) (stop_of stop)
last_by plan None (Some tails) = tails_text tails
last_by plan None None = []

-- what is still to be put
abbrev pub debt_of : KindCheck → Debt
debt_of check = owed (plan_of check) check.kinds check.lines (last_by (plan_of check) check.reading.stop check.tails)
