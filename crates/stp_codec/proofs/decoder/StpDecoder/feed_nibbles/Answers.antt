use Rattle.stp_codec.proofs.Pairs.{takes_same}
use Rattle.stp_codec.proofs.Taken.{settles_at, settles_same}
use Rattle.stp_codec.proofs.decoder.StpDecoder.feed_nibbles.Goals as goal

pub returns-clause-takes : goal.returns-clause-takes
returns-clause-takes c = λ n s.
    let d = c.args.self.now in
    let q = c.settle.new.self in
    takes_same d q c.feed_settled.new.self n c.args.at c.args.byte c.feed_settled.result
    (settles_same d q c.settle.ensures) (c.feed_settled.ensures.takes n (settles_at d q c.settle.ensures n s))
