use Rattle.std.proofs.Common.{◌≤◌, length, rules}
use Rattle.script_rebuild.proofs.Rooms.{bytes_room, bytes_spent}
use Rattle.script_rebuild.proofs.bytes.put_packet.Goals as goal

pub put_all-requires-clause-room : goal.put_all-requires-clause-room
put_all-requires-clause-room c =
    let few : length c.as_slice.result.now ≤ 100 = search rules in
    bytes_room c.args.formatter.now (length c.as_slice.result.now) few c.requires.room

pub returns-clause-spent : goal.returns-clause-spent
returns-clause-spent c =
    let few : length c.as_slice.result.now ≤ 100 = search rules in
    let put = c.put_all.ensures in
    bytes_spent c.args.formatter.now c.put_all.new.self (length c.as_slice.result.now) few put.turns put.count put.room
