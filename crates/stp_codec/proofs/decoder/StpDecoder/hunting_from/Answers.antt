use Rattle.std.proofs.Common.{[], ◌∙◌}
use Rattle.stp_codec.proofs.Pairs.{hunts_pair}
use Rattle.stp_codec.proofs.decoder.StpDecoder.hunting_from.Goals as goal

pub returns-clause-list : goal.returns-clause-list
returns-clause-list c =
    (hunts_pair c.hunting-decoder.result c.feed_nibbles.new.self c.args.at c.args.byte c.feed_nibbles.result
    c.hunting-decoder.ensures.mode (c.feed_nibbles.ensures.takes [] c.hunting-decoder.ensures.fresh)).0

pub returns-clause-live : goal.returns-clause-live
returns-clause-live c =
    c.feed_nibbles.ensures.tells.0
    ∙ (hunts_pair c.hunting-decoder.result c.feed_nibbles.new.self c.args.at c.args.byte c.feed_nibbles.result
    c.hunting-decoder.ensures.mode (c.feed_nibbles.ensures.takes [] c.hunting-decoder.ensures.fresh)).1
