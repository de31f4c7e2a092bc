use Rattle.stp_encoder.proofs.Leasts.{natural_least, gray_least}
use Rattle.stp_encoder.proofs.laws.least_law.Goals as goal

pub returns-clause-natural : goal.returns-clause-natural
returns-clause-natural c = natural_least

pub returns-clause-gray : goal.returns-clause-gray
returns-clause-gray c = gray_least
