-- What the action of `check` stands for.
use Rattle.std.specs.Prelude.{ℕ, List}
use Rattle.capture_actions.specs.Names.{Plan}
use Rattle.capture_actions.specs.CaptureReading as reading
use Rattle.capture_actions.specs.declared.check.Check.{Check}

-- what it was asked for
abbrev pub plan_of : Check → Plan
plan_of check = reading.plan_of check.reading

-- it has read these bytes
abbrev pub Stands : Check → List ℕ → Type 0
Stands check seen = reading.Stands check.reading seen

-- how many bytes it took
abbrev pub taken_by : Check → ℕ
taken_by check = reading.taken_by check.reading

abbrev pub IsLive : Check → Type 0
IsLive check = reading.IsLive check.reading
