use Rattle.recovery_laws.proofs.Guessed.{sure_capture}
use Rattle.recovery_listing.proofs.Guesses.{all_near, sure_listed}
use Rattle.recovery_listing.proofs.laws.guess_law.Goals as goal

pub returns-clause-all : goal.returns-clause-all
returns-clause-all c = all_near

pub returns-clause-sure : goal.returns-clause-sure
returns-clause-sure c = λ p bytes. sure_listed p bytes (sure_capture p.plan bytes)
