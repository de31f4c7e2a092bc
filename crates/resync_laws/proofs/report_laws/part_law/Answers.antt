use Rattle.resync_laws.proofs.Exact.{part_law}
use Rattle.resync_laws.proofs.report_laws.part_law.Goals as goal

pub returns : goal.returns
returns g c = λ ps can. part_law ps can
