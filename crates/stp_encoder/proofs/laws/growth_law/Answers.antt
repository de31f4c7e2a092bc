use Rattle.std.proofs.Common.{refl}
use Rattle.stp_encoder.specs.Packets.{packets_for}
use Rattle.stp_encoder.specs.Bytes.{nibbles_for}
use Rattle.stp_encoder.proofs.Joining.{filled_append}
use Rattle.stp_encoder.proofs.Standing.{packets_more, written_more, written_flush, written_front}
use Rattle.stp_encoder.proofs.ReadingBack.{bytes_small}
use Rattle.stp_encoder.proofs.laws.growth_law.Goals as goal

pub returns-clause-no_packet : goal.returns-clause-no_packet
unfolding packets_for
returns-clause-no_packet c = refl

pub returns-clause-packets : goal.returns-clause-packets
returns-clause-packets c = packets_more

pub returns-clause-nothing : goal.returns-clause-nothing
unfolding packets_for nibbles_for
returns-clause-nothing c = λ order. refl

pub returns-clause-written : goal.returns-clause-written
returns-clause-written c = written_more

pub returns-clause-flushed : goal.returns-clause-flushed
returns-clause-flushed c = written_flush

pub returns-clause-encoded : goal.returns-clause-encoded
returns-clause-encoded c = λ order puts. filled_append (nibbles_for order puts)

pub returns-clause-bytes : goal.returns-clause-bytes
returns-clause-bytes c = bytes_small

pub returns-clause-front : goal.returns-clause-front
returns-clause-front c = written_front
