use Rattle.std.proofs.Common.{refl}
use Rattle.recovery_engine.proofs.heard_counts.HeardCounts.new.Goals as goal

pub returns-clause-fresh : goal.returns-clause-fresh
returns-clause-fresh c = record { packets = c.new.ensures.none; faults = refl }
