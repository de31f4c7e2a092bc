use Rattle.std.proofs.Common.{◌-◌, ◌/◌, ◌%◌, ◌<◌, ◌≤◌, get_or, List, sym, subst, arith, true, rules}
use Rattle.stp_codec.specs.Names.{Placed, nibbles_of, Start}
use Rattle.stp_codec.specs.Decoder.{StandsAt, partial_of}
use Rattle.stp_codec.proofs.Taking.{At}
use Rattle.stp_codec.proofs.PacketPieces.{packet_passes}
use Rattle.stp_codec.proofs.Leaving.{left_stands, left_quiet, left_few}
use Rattle.stp_codec.proofs.decoder.StpDecoder.finish_packet.Goals as goal

pub returns-clause-taken : goal.returns-clause-taken
returns-clause-taken c =
    let d = c.args.self.now in
    let x = c.requires.next in
    let after = c.take-item.new.self in
    let new = c.begin.new.self in
    let byte = c.type_inv.bytes ((c.args.nibbles - 1) / 2) in
    let small : get_or c.args.bytes.now ((c.args.nibbles - 1) / 2) 0 < 256 = omega (arith, byte) in
    let half : (c.args.nibbles - 1) % 2 ≤ 1 = omega arith in
    let few = left_few _ new _ _ _ c.begin.ensures c.left_in.ensures.value small half in
    let to_live : (w : List Placed) → At d.order d.mode true Start after w → At d.order d.mode d.live Start after w =
    λ w t. subst (λ l. At d.order d.mode l Start after w) (sym c.requires.live) t in
    record {
      bytes = (omega arith, let some = x.some in let within = x.within in omega (arith, some, within));
      passes = λ u front last s e.
          packet_passes d.order d.mode d.attribution x.locked c.args.packet c.take-item.result after
          c.take-item.ensures.list c.take-item.ensures.item (StandsAt new) u front last c.args.bytes.now (partial_of d)
          (subst (λ l. At d.order d.mode l (partial_of d) d.attribution (nibbles_of u)) c.requires.live s)
          c.args.nibbles x.some x.within x.whole e
          (λ at w t. left_stands _ new _ _ _ c.begin.ensures c.left_in.ensures.value small half c.requires.live x.locked at w (to_live w t))
          (λ at w t. left_quiet _ new _ _ _ c.begin.ensures c.left_in.ensures.value small half c.requires.live x.locked at w (to_live w t));
      fits = search rules;
      few = omega (arith, few);
    }
