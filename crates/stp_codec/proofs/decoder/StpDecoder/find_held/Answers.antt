use Rattle.std.proofs.Common.{◌-◌, ◌*◌, arith, subst, sym}
use Rattle.trace_values.specs.declared.taking.Found.TheVariants.{Ends}
use Rattle.stp_codec.specs.declared.flat.PacketParts.{PacketParts}
use Rattle.stp_codec.specs.Decoder.{Finds}
use Rattle.stp_codec.specs.Parts.{packet_of}
use Rattle.stp_codec.proofs.Taken.{held_some, held_finishes, held_fronts, finds_packet}
use Rattle.stp_codec.proofs.decoder.StpDecoder.find_held.Goals as goal

pub after-requires : goal.after-requires
after-requires c =
    let x = c.in-Some.parts in
    let e = c.in-Some.ensures in
    let ends = e.ends c.if-parts-before.true in
    let k = held_some c.args.self.now c.requires.ready c.args.ahead.now c.requires.held x.nibbles (packet_of x) (let n = ends.0 in omega (arith, n)) ends.1 in
    omega (arith, k)

pub returns-then-parts-before-clause-found : goal.returns-then-parts-before-clause-found
returns-then-parts-before-clause-found c =
    let d = c.args.self.now in
    let x = c.in-Some.parts in
    let e = c.in-Some.ensures in
    let t = c.if-parts-before.true in
    let ends = e.ends t in
    subst (λ (y : PacketParts). Finds d d c.args.ahead.now c.args.count (Ends y)) (sym c.after.ensures)
    (finds_packet d c.args.ahead.now c.args.count (record x { nibbles = x.nibbles - 2 * d.waiting }) e.number e.none (omega (arith, t)) c.requires.ready
    (held_finishes d c.requires.ready c.args.ahead.now c.requires.held x.nibbles (packet_of x) (let n = ends.0 in omega (arith, n)) ends.1 (omega (arith, t)) e.proper))

pub wait-requires-clause-fronts : goal.wait-requires-clause-fronts
wait-requires-clause-fronts c =
    let f = c.if-parts-before.false in
    let g = c.in-Some.ensures.goes (omega (arith, f)) in
    let n = g.0 in
    held_fronts c.args.self.now c.requires.ready c.args.ahead.now c.args.count (c.requires.held c.args.count (omega (arith, n)))
    (omega (arith, n)) g.1
