-- What is counted of a recovering report.
use Rattle.std.specs.Prelude.{ℕ, List}
use Rattle.trace_values.specs.Placed.{placed}
use Rattle.source_events.specs.declared.plan.Plan.{Plan}
use Rattle.recovery_engine.specs.Engine as reading
use Rattle.recovery_engine.specs.Heard.{HasHeard}
use Rattle.recovery_engine.specs.declared.engine.Recovery.{Recovery}
use Rattle.recovery_engine.specs.declared.heard_counts.HeardCounts.{HeardCounts}
use Rattle.recovery_report.specs.Report.{report}
use Rattle.recovery_listing.specs.Account.{HasRead}

-- what an engine reads by
abbrev pub plan_of : Recovery → Plan
plan_of engine = reading.plan_of engine

-- an engine has read these bytes, and the events of their report are counted
pub record HasTallied (engine : Recovery) (counts : HeardCounts) (seen : List ℕ) : Type 0 where
  pub read : HasRead engine seen
  pub heard : HasHeard counts (report (plan_of engine) (placed seen))
