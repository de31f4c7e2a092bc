use Rattle.std.proofs.Common.{◌%◌, take, drop, ◌∙◌, sym, ap, arith, rules}
use Rattle.itm_codec.specs.Names.{groups}
use Rattle.itm_codec.proofs.Seconds.{six_groups}
use Rattle.itm_codec.proofs.Told.{four_told, six_told}
use Rattle.itm_codec.proofs.whole.second_global.Goals as goal

pub returns-then-bytes-eq5 : goal.returns-then-bytes-eq5
returns-then-bytes-eq5 c =
    let w = c.args.window.now in
    let k = four_told w c.args.bytes 180 (search rules) (omega arith) (sym c.requires.header) c.requires.told (omega arith) c.if-bytes-eq5.true in
    let low = c.from-low.ensures ∙ c.without_bits.ensures ∙ ap groups c.four_in.ensures in (
      omega (arith, k),
      omega (arith, k),
      (take 4 (drop 1 w), k.0, k.2, k.3, ap (λ n. n % 4194304) low),
      omega arith,
    )

pub returns-else-bytes-eq5 : goal.returns-else-bytes-eq5
returns-else-bytes-eq5 c =
    let w = c.args.window.now in
    let k = six_told w c.args.bytes 180 (search rules) (omega arith) (sym c.requires.header) c.requires.told (omega arith) c.if-bytes-eq5.false in
    let number = six_groups w c.four_in.result c.from-low.result c.from.result c.from-else-bytes-eq5.result (search rules) c.four_in.ensures (c.from-low.ensures ∙ c.without_bits.ensures)
    c.from.ensures c.from-else-bytes-eq5.ensures in (
      omega (arith, k),
      omega (arith, k),
      (take 6 (drop 1 w), k.0, k.2, k.3, number.0),
      number.1,
    )
