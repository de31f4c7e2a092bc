use Rattle.std.proofs.Common.{◌≡◌, ◌≤◌, ◌*◌, length, refl, arith}
use Rattle.trace_text.proofs.Putting.{said_as, front_of}
use Rattle.trace_text.proofs.HexNibbles.{front_digits}
use Rattle.trace_text.proofs.room.put_hex_front.Goals as goal

pub returns : goal.returns
returns c =
    let bytes = c.args.bytes.now in
    let all : 2 * length bytes ≡ 8 = (let four = c.told-bytes in omega arith) in
    let few : 2 * c.args.count ≤ 2 * length bytes = (let few = c.requires.few in omega arith) in
    let room = c.requires.room in
    said_as (front_of (2 * c.args.count) c.put_digits-all.ensures few (omega arith)) refl (front_digits c.args.count bytes)
