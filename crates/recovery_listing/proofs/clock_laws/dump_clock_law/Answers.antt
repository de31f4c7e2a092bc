use Rattle.recovery_listing.proofs.Clocked.{dump_clock}
use Rattle.recovery_listing.proofs.clock_laws.dump_clock_law.Goals as goal

pub returns : goal.returns
returns c = dump_clock
