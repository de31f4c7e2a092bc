use Rattle.std.proofs.Common.{◌∷◌, [], ◌/◌, ◌∙◌, ap, arith, rules}
use Rattle.itm_codec.proofs.Told.{short_extension}
use Rattle.itm_codec.proofs.Windows.{bit_is}
use Rattle.itm_codec.proofs.whole.extension_of.Goals as goal

pub returns-then-header-lt128 : goal.returns-then-header-lt128
returns-then-header-lt128 c =
    let k = short_extension c.args.window.now c.args.bytes c.args.header (search rules) (search rules) c.requires.header c.requires.told c.requires.kind.0 c.requires.kind.1 c.if-header-lt128.true in
    let e = c.from.ensures in
    let l = c.if-header-lt128.true in
    let b = bit_is (c.args.header / 4) in
    let a = c.requires.kind.0 in
    let m = c.requires.kind.1 in
    (omega (arith, k), omega (arith, k), (c.args.header / 16, [], omega (arith, l), k.1 ∙ ap (λ x. x ∷ []) (omega (arith, l, b, a, m)), tt, omega (arith, e)), omega (arith, e, l))
