use Rattle.resync_laws.proofs.Points.{port_point}
use Rattle.resync_laws.proofs.report_laws.port_point_law.Goals as goal

pub returns : goal.returns
returns c = port_point
