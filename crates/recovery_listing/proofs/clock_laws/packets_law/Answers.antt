use Rattle.std.proofs.Common.{true, false}
use Rattle.recovery_listing.proofs.Clocked.{few_packets}
use Rattle.recovery_listing.proofs.clock_laws.packets_law.Goals as goal

pub returns-clause-sure : goal.returns-clause-sure
returns-clause-sure c = λ plan bytes source. few_packets plan bytes false source

pub returns-clause-guesses : goal.returns-clause-guesses
returns-clause-guesses c = λ plan bytes source. few_packets plan bytes true source
