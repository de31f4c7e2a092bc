use Rattle.std.proofs.Common.{length}
use Rattle.capture_actions.proofs.Pushing.{HasPushed}
use Rattle.capture_actions.proofs.realign.push_all.Given as goal

abbrev pub invariant-loop-word : goal.invariant-loop-word
invariant-loop-word l = HasPushed l.fn.slip l.slip l.bytes l.rest l.fn.outlet l.outlet

abbrev pub decreases-loop-word : goal.decreases-loop-word
decreases-loop-word l = length l.rest
