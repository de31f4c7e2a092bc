use Rattle.stp_encoder.proofs.Versions.{version_for}
use Rattle.stp_encoder.proofs.laws.version_law.Goals as goal

pub returns : goal.returns
returns c = version_for
