use Rattle.std.proofs.Common.{◌∷◌, [], inl, refl, ◌∙◌, ap, arith, rules}
use Rattle.itm_codec.proofs.Told.{short_local}
use Rattle.itm_codec.proofs.whole.local_of.Goals as goal

pub returns-then-header-eq112 : goal.returns-then-header-eq112
returns-then-header-eq112 c =
    let e = c.if-header-eq112.true in
    let k = short_local c.args.window.now c.args.bytes c.args.header (search rules) (search rules) c.requires.header c.requires.told c.requires.kind (omega (arith, e)) in
    (omega (arith, k), omega (arith, k), k.2 ∙ ap (λ x. x ∷ []) e, tt)

pub returns-then-header-lt112 : goal.returns-then-header-lt112
returns-then-header-lt112 c =
    let k = short_local c.args.window.now c.args.bytes c.args.header (search rules) (search rules) c.requires.header c.requires.told c.requires.kind (let l = c.if-header-lt112.true in omega (arith, l)) in
    let e = c.from.ensures in
    (omega (arith, k), omega (arith, k), inl (refl, omega (arith, k, e), omega (arith, k, e), k.2 ∙ ap (λ x. x ∷ []) (omega (arith, k, e))), omega (arith, k, e))
