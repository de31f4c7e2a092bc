use Rattle.std.proofs.Common.{refl}
use Rattle.recovering_machines.proofs.found.look.Goals as goal

pub returns-else-takes_told-clause-same : goal.returns-else-takes_told-clause-same
returns-else-takes_told-clause-same g c = (refl, record { kind = refl; any = refl; own = refl })
