use Rattle.std.proofs.Common.{[], ◌∷◌, ◌++◌, subst, Option}
use Rattle.stp_encoder.specs.Names.{Order, StpPacket, Place, short}
use Rattle.stp_encoder.specs.Fitting.{item_place}
use Rattle.stp_encoder.specs.Packets.{telling_place, own_packet}
use Rattle.stp_encoder.specs.Bytes.{spelled}
use Rattle.stp_encoder.specs.Encoder.{IsAt}
use Rattle.stp_encoder.proofs.Standing.{at_one, at_both}
use Rattle.stp_encoder.proofs.encoder.StpEncoder.put_packets.Goals as goal

pub returns-clause-at : goal.returns-clause-at
returns-clause-at c = λ packets n h.
    let order = c.args.self.now.order in
    let middle = c.put_place.new.self in
    let bytes = c.put_place.new.out.items in
    let new = c.put_packet.new.self in
    let out = c.put_packet.new.out.items in
    let told = telling_place packets (item_place c.args.item.now) in
    let at_place : IsAt middle bytes (packets ++ told) (n ++ spelled order told) =
    subst (λ (o : Option Place). IsAt middle bytes (packets ++ telling_place packets o) (n ++ spelled order (telling_place packets o))) c.place_of.ensures
    (c.put_place.ensures.at packets n h) in
    let own = own_packet (packets ++ told) c.args.item.now in
    let at_own : IsAt new out ((packets ++ told) ++ own ∷ []) ((n ++ spelled order told) ++ short order own) =
    subst (λ (p : StpPacket). IsAt new out ((packets ++ told) ++ p ∷ []) ((n ++ spelled order told) ++ short order p)) (c.own_packet-packet.ensures.packet (packets ++ told) at_place.0)
    (subst (λ (o : Order). IsAt new out ((packets ++ told) ++ c.own_packet-packet.result ∷ []) ((n ++ spelled order told) ++ short o c.own_packet-packet.result)) c.put_place.ensures.order
    (c.put_packet.ensures.at (packets ++ told) (n ++ spelled order told) at_place)) in
    at_both new out order packets n told (own ∷ []) (at_one new out order (packets ++ told) (n ++ spelled order told) own at_own)
