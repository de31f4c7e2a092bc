use Rattle.std.proofs.Common.{length}
use Rattle.recovery_engine.proofs.router.+take_frame.Given as goal

abbrev pub decreases-take_frame : goal.decreases-take_frame
decreases-take_frame g l = length l.cells.now
