use Rattle.std.proofs.Common.{◌≡◌, length, arith, rules}
use Rattle.itm_codec.proofs.Fronts.{cut_front}
use Rattle.itm_codec.proofs.decoder.look_in.Goals as goal

pub returns-in-Packet-2 : goal.returns-in-Packet-2
returns-in-Packet-2 c =
    let found = c.in-Packet.ensures in
    let long : length c.args.window.now ≡ 8 = search rules in (
      (let m = found.1 in omega (arith, m, long)),
      cut_front c.args.window.now c.args.count c.in-Packet.bytes c.in-Packet.packet c.if-bytes-count.false found.1 found.2,
    )
