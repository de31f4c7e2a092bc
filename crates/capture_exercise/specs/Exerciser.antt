-- What the action of `exercise` stands for.
use Rattle.std.specs.Prelude.{ℕ, List}
use Rattle.capture_actions.specs.Check as reading
use Rattle.capture_exercise.specs.declared.action.Exercise.{Exercise}
use Rattle.capture_exercise.specs.declared.plans.ExercisePlan.{ExercisePlan}

-- what it was asked for
abbrev pub plan_of : Exercise → ExercisePlan
plan_of e = record { items = e.lines.items; capture = e.lines.capture; plan = reading.plan_of e.check }

-- what is read stands for these bytes
abbrev pub Stands : Exercise → List ℕ → Type 0
Stands e seen = reading.Stands e.check seen

-- how many bytes it took
abbrev pub taken_by : Exercise → ℕ
taken_by e = reading.taken_by e.check

abbrev pub IsLive : Exercise → Type 0
IsLive e = reading.IsLive e.check
