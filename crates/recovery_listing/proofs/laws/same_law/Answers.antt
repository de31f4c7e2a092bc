use Rattle.recovery_listing.proofs.Faultless.{same_listing}
use Rattle.recovery_listing.proofs.laws.same_law.Goals as goal

pub returns : goal.returns
returns c = same_listing
