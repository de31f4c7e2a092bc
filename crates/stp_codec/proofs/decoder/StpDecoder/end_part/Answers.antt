use Rattle.std.proofs.Common.{◌-◌, ◌/◌, ◌%◌, ◌<◌, ◌≤◌, get_or, List, sym, subst, arith, true}
use Rattle.stp_codec.specs.Names.{Placed, nibbles_of, Start, said_item}
use Rattle.stp_codec.specs.Parts.{packet_of}
use Rattle.stp_codec.specs.Decoder.{StandsAt, partial_of}
use Rattle.stp_codec.proofs.Taking.{At}
use Rattle.stp_codec.proofs.PacketPieces.{packet_passes}
use Rattle.stp_codec.proofs.Leaving.{left_stands, left_quiet, left_few}
use Rattle.stp_codec.proofs.decoder.StpDecoder.end_part.Goals as goal

pub returns-clause-passes : goal.returns-clause-passes
returns-clause-passes c = λ u front last s e.
    let d = c.args.self.now in
    let x = c.requires.next.packet in
    let parts = c.args.parts in
    let after = c.say-said.new.self in
    let new = c.begin_ready.new.self in
    let byte = c.type_inv.ahead ((parts.nibbles - 1) / 2) in
    let small : get_or c.args.ahead.now ((parts.nibbles - 1) / 2) 0 < 256 = omega (arith, byte) in
    let half : (parts.nibbles - 1) % 2 ≤ 1 = omega arith in
    let to_live : (w : List Placed) → At d.order d.mode true Start after w → At d.order d.mode d.live Start after w = λ w t. subst (λ l. At d.order d.mode l Start after w) (sym c.requires.live) t in
    packet_passes d.order d.mode d.attribution x.locked (packet_of parts) (said_item c.say-said.result) after c.say-said.ensures.list c.say-said.ensures.item
    (StandsAt new) u front last c.args.ahead.now (partial_of d) (subst (λ l. At d.order d.mode l (partial_of d) d.attribution (nibbles_of u)) c.requires.live s)
    parts.nibbles x.some x.within x.whole e
    (λ at w t. left_stands _ new _ _ _ c.begin_ready.ensures c.left_in.ensures.value small half c.requires.live x.locked at w (to_live w t))
    (λ at w t. left_quiet _ new _ _ _ c.begin_ready.ensures c.left_in.ensures.value small half c.requires.live x.locked at w (to_live w t))

pub returns-clause-few : goal.returns-clause-few
returns-clause-few c =
    let byte = c.type_inv.ahead ((c.args.parts.nibbles - 1) / 2) in
    let few = left_few _ c.begin_ready.new.self _ _ _ c.begin_ready.ensures c.left_in.ensures.value (omega (arith, byte)) (omega arith) in
    omega (arith, few)
