-- The numbers of statuses.
use Rattle.std.specs.Prelude.{ℕ}
use Rattle.capture_run.specs.declared.status.Status.{Status}
use Rattle.capture_run.specs.declared.status.Status.TheVariants.{Done, Usage, CaptureFault, ReadFault, WriteFault}
use Rattle.capture_run.specs.declared.status.Status.TheVariants.{NoMemory, ScriptFault, Limit, Recovered, BadImage}

abbrev pub number_of : Status → ℕ
number_of Done = 0
number_of Usage = 2
number_of CaptureFault = 3
number_of ReadFault = 4
number_of WriteFault = 5
number_of NoMemory = 6
number_of ScriptFault = 7
number_of Limit = 8
number_of Recovered = 9
number_of BadImage = 10
