use Rattle.std.proofs.Common.{◌≡◌, ◌+◌, ◌*◌, ◌/◌, ◌%◌, ◌∙◌, ap, arith}
use Rattle.stp_codec.specs.Names.{Lsn, number}
use Rattle.stp_codec.specs.Wholes.{nibbles_in, between}
use Rattle.stp_codec.proofs.Words.{nibbles_are}
use Rattle.stp_codec.proofs.numbers.nibbles_from.Goals as goal

pub returns : goal.returns
returns c =
    let a = c.args in
    nibbles_are a.bytes.now (a.start / 2) (a.start % 2) c.from.result c.from-2.result (omega arith) c.requires
    (c.from.ensures ∙ c.word_from-front.ensures) c.from-2.ensures
    ∙ ap (λ n. number Lsn (between (nibbles_in a.bytes.now) n (n + 16))) (let e : 2 * (a.start / 2) + a.start % 2 ≡ a.start = omega arith in e)
