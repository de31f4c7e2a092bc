use Rattle.std.proofs.Common.{◌+◌, refl, arith}
use Rattle.port_formatter.proofs.FunnelledWays.{funnelled_ends}
use Rattle.port_formatter.proofs.funnelled.FunnelledFrames.flush.Goals as goal

pub flush-requires-clause-room : goal.flush-requires-clause-room
flush-requires-clause-room c = let room = c.drain.ensures.room 7 c.requires.room in omega (arith, room)

pub returns-clause-ends : goal.returns-clause-ends
returns-clause-ends c =
    funnelled_ends c.args.self.now c.drain.new.self _ c.drain.ensures.passes refl c.flush.ensures.ends

pub returns-clause-room : goal.returns-clause-room
returns-clause-room c = λ more h.
    let room = c.drain.ensures.room (7 + more) h in
    let filled = c.flush.ensures.filled in
    let same = c.flush.ensures.capacity in
    omega (arith, room, filled, same)
