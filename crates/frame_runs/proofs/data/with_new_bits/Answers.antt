use Rattle.std.proofs.Common.{◌∙◌, rules, arith}
use Rattle.frame_runs.proofs.Halfwords.{sum_bytes}
use Rattle.frame_runs.proofs.data.with_new_bits.Goals as goal

pub returns : goal.returns
returns c =
    c.to_le_bytes.ensures
    ∙ sum_bytes c.args.bytes _ c.args.bits (search rules) c.requires
    (let e = c.from_le_bytes.ensures in let f = c.spread.ensures in let h = c.low_bits.ensures in omega (arith, e, f, h))
