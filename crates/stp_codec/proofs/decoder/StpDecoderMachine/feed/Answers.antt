use Rattle.std.proofs.Common.{[], ◌∷◌, ◌++◌, ◌∙◌, ap}
use Rattle.stp_codec.specs.Names.{byte_at, nibbles_of, Grows, is_locked}
use Rattle.stp_codec.specs.Reading.{items_in, packets_of, rest_in}
use Rattle.stp_codec.specs.Answers.{AnswersByte}
use Rattle.stp_codec.proofs.Taken.{to_stands, settles_reads, settles_same, same_order}
use Rattle.stp_codec.proofs.decoder.StpDecoderMachine.feed.Goals as goal

pub returns-clause-list : goal.returns-clause-list
returns-clause-list c = λ u s.
    to_stands c.feed_settled.new.self c.feed_settled.ensures.settled (nibbles_of (u ++ byte_at c.args.at c.args.byte ∷ []))
    (c.feed_settled.ensures.reads u (settles_reads c.args.self.now c.settle.new.self c.settle.ensures u s)).list

pub returns-clause-step : goal.returns-clause-step
returns-clause-step c = λ u s.
    let d = c.args.self.now in
    let m = c.settle.new.self in
    same_order d m (settles_same d m c.settle.ensures)
    (λ o h. Grows (items_in o h u) (items_in o h (u ++ byte_at c.args.at c.args.byte ∷ [])) c.args.at c.feed_settled.result)
    (c.feed_settled.ensures.reads u (settles_reads d m c.settle.ensures u s)).grows

pub returns-clause-grammar : goal.returns-clause-grammar
returns-clause-grammar c = λ u s k.
    let d = c.args.self.now in
    let m = c.settle.new.self in
    same_order d m (settles_same d m c.settle.ensures)
    (λ o h. AnswersByte o (packets_of o h (nibbles_of u)) (rest_in o h (nibbles_of u)) c.args.at c.args.byte c.feed_settled.result)
    ((c.feed_settled.ensures.reads u (settles_reads d m c.settle.ensures u s)).grammar (ap (λ x. is_locked x) c.settle.ensures.mode ∙ k))
