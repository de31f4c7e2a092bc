use Rattle.std.proofs.Common.{arith}
use Rattle.std.proofs.lemmas.List.{length-take-le}
use Rattle.stp_codec.proofs.find.window_in.Goals as goal

pub unwrap-requires : goal.unwrap-requires
unwrap-requires c =
    let l = length-take-le 24 c.args.ahead.now c.requires in
    c.first_chunk.ensures.variant.1 (omega (arith, l))
