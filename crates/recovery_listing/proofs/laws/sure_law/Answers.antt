use Rattle.recovery_listing.proofs.Unguessed.{plain_listed}
use Rattle.recovery_listing.proofs.laws.sure_law.Goals as goal

pub returns : goal.returns
returns c = plain_listed
