use Rattle.std.proofs.Common.{◌∙◌}
use Rattle.stp_encoder.specs.Puts.{items_in}
use Rattle.stp_encoder.specs.Packets.{packets_for}
use Rattle.stp_encoder.proofs.Versions.{version_for}
use Rattle.stp_encoder.proofs.encoder.StpEncoder.version.Goals as goal

pub returns-clause-list : goal.returns-clause-list
returns-clause-list c = λ puts s. c.version.ensures.list (packets_for (items_in puts)) s.attribution ∙ version_for (items_in puts)
