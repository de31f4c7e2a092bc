-- What the action of `show` stands for.
use Rattle.std.specs.Prelude.{◌≡◌, ℕ, List}
use Rattle.capture_actions.specs.Names.{placed, report_of}
use Rattle.capture_actions.specs.CaptureReading as readings
use Rattle.capture_actions.specs.Filter.{plan_by, HasSeen}
use Rattle.capture_actions.specs.SourceClocks.{AllStand}
use Rattle.capture_actions.specs.declared.list_plan.ListPlan.{ListPlan}
use Rattle.capture_actions.specs.declared.show.Show.{Show}

-- what it was asked for
abbrev pub plan_of : Show → ListPlan
plan_of show = plan_by (readings.plan_of show.reading) show.lister.filter

-- it has read these bytes, its lister reads by the same plan, its clocks have taken their packets, and its window has
-- seen their events
pub record Stands (show : Show) (seen : List ℕ) : Type 0 where
  pub reading : readings.Stands show.reading seen
  pub plan : show.lister.plan ≡ readings.plan_of show.reading
  pub clocks : AllStand show.lister.clocks (report_of (readings.plan_of show.reading) (placed seen))
  pub filter : HasSeen show.lister.filter (report_of (readings.plan_of show.reading) (placed seen))

-- how many bytes it took
abbrev pub taken_by : Show → ℕ
taken_by show = readings.taken_by show.reading

abbrev pub IsLive : Show → Type 0
IsLive show = readings.IsLive show.reading
