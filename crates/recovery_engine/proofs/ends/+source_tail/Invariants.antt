use Rattle.std.proofs.Common.{length}
use Rattle.recovery_engine.proofs.ends.+source_tail.Given as goal

abbrev pub decreases-source_tail : goal.decreases-source_tail
decreases-source_tail l = length l.slots.now
