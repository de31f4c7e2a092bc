use Rattle.resync_rules.specs.Syncing.{SpelledBy}
use Rattle.resync_rules.proofs.Syncing.{ends_only}
use Rattle.resync_rules.proofs.stream_laws.pattern_law.Goals as goal

pub returns : goal.returns
returns g c = λ why rule start p v k. ends_only (SpelledBy rule start) why rule start p v k
