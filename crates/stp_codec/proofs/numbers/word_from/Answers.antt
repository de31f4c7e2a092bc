use Rattle.std.proofs.Common.{◌∙◌, ap, rules}
use Rattle.std.specs.Int.{w64, from_le_bytes}
use Rattle.stp_codec.proofs.Words.{of_some, eight_from, word_is}
use Rattle.stp_codec.proofs.numbers.word_from.Goals as goal

pub returns : goal.returns
returns c =
    let chunk = of_some _ _ c.first_chunk.result c.unwrap.result c.unwrap.ensures c.first_chunk.ensures.cases in
    c.from_le_bytes.ensures ∙ ap (from_le_bytes w64) (chunk.same ∙ eight_from c.args.first c.args.bytes.now)
    ∙ word_is c.args.bytes.now c.args.first c.requires (search rules)
