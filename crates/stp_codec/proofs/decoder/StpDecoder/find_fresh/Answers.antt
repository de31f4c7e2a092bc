use Rattle.std.proofs.Common.{arith}
use Rattle.stp_codec.specs.Parts.{packet_of}
use Rattle.stp_codec.specs.Wholes.{nibbles_in}
use Rattle.std.proofs.Common.{take}
use Rattle.stp_codec.proofs.Taken.{fresh_finishes, fresh_fronts, copies_ready, copies_fronts, copies_finds, finds_packet}
use Rattle.stp_codec.proofs.decoder.StpDecoder.find_fresh.Goals as goal

pub returns-then-parts-count-clause-found : goal.returns-then-parts-count-clause-found
returns-then-parts-count-clause-found c =
    let d = c.args.self.now in
    let x = c.in-Some.parts in
    let e = c.in-Some.ensures in
    let ends = e.ends c.if-parts-count.true in
    finds_packet d c.args.ahead.now c.args.count x e.number e.none c.if-parts-count.true c.requires.ready
    (fresh_finishes d c.requires.ready c.requires.settled c.args.ahead.now x.nibbles (packet_of x) e.some ends.0 ends.1 e.proper)

pub wait-requires-clause-fronts : goal.wait-requires-clause-fronts
wait-requires-clause-fronts c =
    let d = c.args.self.now in
    let f = c.if-parts-count.false in
    copies_fronts d c.hold.new.self c.args.ahead.now c.hold.ensures (nibbles_in (take c.args.count c.args.ahead.now))
    (fresh_fronts d c.requires.ready c.requires.settled c.args.ahead.now c.args.count (c.in-Some.ensures.goes (omega (arith, f))).1)

pub wait-requires-clause-ready : goal.wait-requires-clause-ready
wait-requires-clause-ready c = copies_ready c.args.self.now c.hold.new.self c.args.ahead.now c.hold.ensures c.requires.ready

pub returns-clause-found : goal.returns-clause-found
returns-clause-found c = copies_finds c.args.self.now c.hold.new.self c.wait.new.self c.args.ahead.now c.args.count c.wait.result c.hold.ensures c.wait.ensures.found
