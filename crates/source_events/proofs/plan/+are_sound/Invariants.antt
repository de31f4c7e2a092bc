use Rattle.std.proofs.Common.{length}
use Rattle.source_events.proofs.plan.+are_sound.Given as goal

abbrev pub decreases-are_sound : goal.decreases-are_sound
decreases-are_sound l = length l.ids.now
