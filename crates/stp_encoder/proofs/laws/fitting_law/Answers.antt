use Rattle.stp_encoder.proofs.Fitted.{none_fit, more_fit, front_fits}
use Rattle.stp_encoder.proofs.laws.fitting_law.Goals as goal

pub returns-clause-none : goal.returns-clause-none
returns-clause-none c = none_fit

pub returns-clause-more : goal.returns-clause-more
returns-clause-more c = more_fit

pub returns-clause-front : goal.returns-clause-front
returns-clause-front c = front_fits
