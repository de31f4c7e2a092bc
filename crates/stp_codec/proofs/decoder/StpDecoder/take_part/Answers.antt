use Rattle.std.proofs.Common.{length}
use Rattle.stp_codec.proofs.Taken.{settles_same, settles_idle, idle_idle, idle_parts}
use Rattle.stp_codec.proofs.decoder.StpDecoder.take_part.Goals as goal

pub returns-clause-takes : goal.returns-clause-takes
returns-clause-takes c =
    let d = c.args.self.now in
    let m = c.settle.new.self in
    idle_parts d m c.take_settled.new.self (settles_same d m c.settle.ensures) (settles_idle d m c.settle.ensures) c.args.bytes.now (length c.args.bytes.now)
    c.take_settled.result c.take_settled.ensures.some

pub returns-clause-none : goal.returns-clause-none
returns-clause-none c = λ h.
    let d = c.args.self.now in
    let m = c.settle.new.self in
    idle_idle d m c.take_settled.new.self (settles_same d m c.settle.ensures) (settles_idle d m c.settle.ensures) (c.take_settled.ensures.none h)
