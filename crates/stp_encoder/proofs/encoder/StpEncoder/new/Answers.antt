use Rattle.stp_encoder.specs.Packets.{packets_for}
use Rattle.stp_encoder.specs.Bytes.{nibbles_for}
use Rattle.stp_encoder.proofs.encoder.StpEncoder.new.Goals as goal

pub returns-clause-list : goal.returns-clause-list
unfolding packets_for nibbles_for
returns-clause-list c = record { attribution = c.new.ensures; nibble = c.new-2.ensures.1 }
