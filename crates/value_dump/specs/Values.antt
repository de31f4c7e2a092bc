-- What is kept of the values of signals.
use Rattle.std.specs.Prelude.{ℕ, Option}
use Rattle.value_dump.specs.Dump.{known}
use Rattle.value_dump.specs.declared.values.SignalValues.{SignalValues}

-- the value of a signal now, and at the last local timestamp
abbrev pub latest_of : SignalValues → ℕ → Option ℕ
latest_of values = known values.latest

abbrev pub stamped_of : SignalValues → ℕ → Option ℕ
stamped_of values = known values.stamped

-- how many bytes the lines of the signals that changed have at most
abbrev pub owed_by : SignalValues → ℕ
owed_by values = values.owed
