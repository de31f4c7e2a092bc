use Rattle.std.proofs.Common.{◌++◌, sym, subst, Option}
use Rattle.std.specs.Option.{option_to_list}
use Rattle.stp_encoder.specs.Names.{StpPacket}
use Rattle.stp_encoder.specs.Bytes.{spelled}
use Rattle.stp_encoder.specs.Encoder.{IsAt}
use Rattle.stp_encoder.proofs.Standing.{at_one}
use Rattle.stp_encoder.proofs.encoder.StpEncoder.put_told.Goals as goal

pub returns-in-Some-clause-at : goal.returns-in-Some-clause-at
returns-in-Some-clause-at c = λ packets n h.
    let order = c.args.self.now.order in
    subst (λ (o : Option StpPacket). IsAt c.put_packet.new.self c.put_packet.new.out.items (packets ++ option_to_list o) (n ++ spelled order (option_to_list o))) (sym c.in-Some.is)
    (at_one c.put_packet.new.self c.put_packet.new.out.items order packets n c.in-Some.packet (c.put_packet.ensures.at packets n h))
