use Rattle.resync_rules.proofs.Moving.{stream_later}
use Rattle.resync_rules.proofs.point_laws.moved_law.Goals as goal

pub returns : goal.returns
returns g c = λ rule start p v hunts by u. stream_later by rule start p v hunts u
