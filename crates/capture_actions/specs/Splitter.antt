-- What the action of `split` stands for.
use Rattle.std.specs.Prelude.{ℕ, List}
use Rattle.capture_actions.specs.CapturePort as port
use Rattle.capture_actions.specs.declared.split_plan.SplitPlan.{SplitPlan}
use Rattle.capture_actions.specs.declared.split.Split.{Split}

-- its port has read these bytes
abbrev pub Stands : Split → List ℕ → Type 0
Stands split seen = port.Stands split.port seen

-- what it was asked for
abbrev pub plan_of : Split → SplitPlan
plan_of split = split.plan

-- how many bytes it took
abbrev pub taken_by : Split → ℕ
taken_by split = port.count_of split.port

abbrev pub IsLive : Split → Type 0
IsLive split = port.IsLive split.port
