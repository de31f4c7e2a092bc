use Rattle.recovery_laws.proofs.Ends.{has_after, has_sound}
use Rattle.recovery_laws.proofs.laws.counts_law.Goals as goal

pub returns : goal.returns
returns c = record { sound = has_sound; broken = has_after }
