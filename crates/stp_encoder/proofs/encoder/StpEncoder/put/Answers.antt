use Rattle.std.proofs.Common.{List, ◌++◌, sym, ◌∙◌, ap, subst}
use Rattle.stp_encoder.specs.Puts.{items_in}
use Rattle.stp_encoder.specs.Packets.{packets_with, packets_for}
use Rattle.stp_encoder.specs.Bytes.{spelled, kept_nibble, written}
use Rattle.stp_encoder.specs.Encoder.{Stands, IsAt}
use Rattle.stp_encoder.proofs.Standing.{at_start, stands_more, written_more}
use Rattle.stp_encoder.proofs.encoder.StpEncoder.put.Goals as goal

-- where the encoder and the bytes are, once the packets are put
put_at : (c : goal.After-put_packets) (puts : List _) → Stands c.args.self.now puts →
    IsAt c.put_packets.new.self c.put_packets.new.out.items (packets_for (items_in puts) ++ packets_with (packets_for (items_in puts)) c.args.item.now)
    (kept_nibble c.args.self.now.order puts ++ spelled c.args.self.now.order (packets_with (packets_for (items_in puts)) c.args.item.now))
put_at c puts s =
    c.put_packets.ensures.at (packets_for (items_in puts)) (kept_nibble c.args.self.now.order puts)
    (subst (λ bytes. IsAt c.args.self.now bytes (packets_for (items_in puts)) (kept_nibble c.args.self.now.order puts)) (sym c.requires.empty) (at_start c.args.self.now puts s))

pub returns-clause-list : goal.returns-clause-list
returns-clause-list c = λ puts s.
    stands_more c.args.self.now c.put_packets.new.self c.put_packets.new.out.items puts c.args.item.now c.put_packets.ensures.order (put_at c puts s)

pub returns-clause-bytes : goal.returns-clause-bytes
returns-clause-bytes c = λ puts s. (put_at c puts s).1.0

pub returns-clause-written : goal.returns-clause-written
returns-clause-written c = λ puts s.
    written_more c.args.self.now.order puts c.args.item.now
    ∙ ap (λ bytes. written c.args.self.now.order puts ++ bytes) (sym (put_at c puts s).1.0)
