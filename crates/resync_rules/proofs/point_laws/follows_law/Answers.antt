use Rattle.resync_rules.specs.Syncing.{SpelledBy}
use Rattle.resync_rules.proofs.Following.{follows}
use Rattle.resync_rules.proofs.point_laws.follows_law.Goals as goal

pub returns : goal.returns
returns g c = λ why rule start p v k hunts. follows (SpelledBy rule start) why rule start p v k hunts
