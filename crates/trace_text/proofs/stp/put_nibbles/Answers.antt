use Rattle.std.proofs.Common.{◌≡◌, length, ap, refl, arith}
use Rattle.hex.specs.Hex.{encode_lower}
use Rattle.trace_text.proofs.Putting.{said_as, front_of}
use Rattle.trace_text.proofs.HexNibbles.{moved_digits}
use Rattle.trace_text.proofs.stp.put_nibbles.Goals as goal

pub returns : goal.returns
returns c =
    let n = c.args.count in
    let eight : length c.to_be_bytes.result ≡ 8 = ap length c.to_be_bytes.ensures in
    let front = front_of n (said_as c.put_digits-all.ensures (omega arith) (ap encode_lower c.to_be_bytes.ensures)) c.requires.few c.requires.room in
    let put = said_as front refl (moved_digits n c.args.number c.requires.few c.requires.fits) in
    rw c.from.ensures put
