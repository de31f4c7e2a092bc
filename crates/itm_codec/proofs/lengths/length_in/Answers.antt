use Rattle.std.proofs.Common.{arith, rules, slice_index}
use Rattle.itm_codec.proofs.Places.{kind_few}
use Rattle.itm_codec.proofs.lengths.length_in.Goals as goal

pub bounds-lengths-kinds : goal.bounds-lengths-kinds
bounds-lengths-kinds c =
    let k = kind_few (slice_index c.args.window.now 0) (search rules) in
    let w = c.first_clear.ensures.within in
    omega (arith, k, w)
