use Rattle.std.proofs.Common.{length}
use Rattle.recovery_engine.proofs.slot.+take_own.Given as goal

abbrev pub decreases-take_own : goal.decreases-take_own
decreases-take_own g l = length l.slots.now
