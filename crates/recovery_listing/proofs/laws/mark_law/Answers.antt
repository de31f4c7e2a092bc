use Rattle.recovery_listing.proofs.Guesses.{all_told}
use Rattle.recovery_listing.proofs.laws.mark_law.Goals as goal

pub returns : goal.returns
returns c = all_told
