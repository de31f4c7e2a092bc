use Rattle.value_dump.proofs.Clocks.{dump_clock}
use Rattle.value_dump.proofs.clock_laws.clock_law.Goals as goal

pub returns : goal.returns
returns c = dump_clock
