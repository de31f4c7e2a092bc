-- What the action of `text` stands for.
use Rattle.std.specs.Prelude.{◌≡◌, ℕ, List}
use Rattle.capture_actions.specs.CaptureReading as readings
use Rattle.capture_actions.specs.PortText.{source_of}
use Rattle.capture_actions.specs.declared.port_text_plan.PortTextPlan.{PortTextPlan}
use Rattle.capture_actions.specs.declared.port_text.PortText.{PortText}

-- what it was asked for
abbrev pub plan_of : PortText → PortTextPlan
plan_of text = record { plan = readings.plan_of text.reading; port = text.values.port }

-- it has read these bytes, and puts the values of the plan's source
pub record Stands (text : PortText) (seen : List ℕ) : Type 0 where
  pub reading : readings.Stands text.reading seen
  pub source : text.values.source ≡ source_of (readings.plan_of text.reading)

-- how many bytes it took
abbrev pub taken_by : PortText → ℕ
taken_by text = readings.taken_by text.reading

abbrev pub IsLive : PortText → Type 0
IsLive text = readings.IsLive text.reading
