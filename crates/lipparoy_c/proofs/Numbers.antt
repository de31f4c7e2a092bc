-- The numbers of statuses, of which none is 11.
use Rattle.std.proofs.Common.{◌<◌, arith}
use Rattle.capture_run.specs.Statuses.{number_of}
use Rattle.capture_run.specs.declared.status.Status.{Status}
use Rattle.capture_run.specs.declared.status.Status.TheVariants.{Done, Usage, CaptureFault, ReadFault, WriteFault}
use Rattle.capture_run.specs.declared.status.Status.TheVariants.{NoMemory, ScriptFault, Limit, Recovered, BadImage}

pub number_under : (status : Status) → number_of status < 11
number_under Done = omega arith
number_under Usage = omega arith
number_under CaptureFault = omega arith
number_under ReadFault = omega arith
number_under WriteFault = omega arith
number_under NoMemory = omega arith
number_under ScriptFault = omega arith
number_under Limit = omega arith
number_under Recovered = omega arith
number_under BadImage = omega arith
