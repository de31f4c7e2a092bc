use Rattle.std.proofs.Common.{◌∷◌, ℕ, take, inr, ◌∙◌, ap, arith, rules}
use Rattle.itm_codec.specs.Lengths.{groups_behind}
use Rattle.itm_codec.proofs.Told.{local_late, late_told}
use Rattle.itm_codec.proofs.whole.long_local.Goals as goal

pub lateness_of-requires : goal.lateness_of-requires
lateness_of-requires c = (local_late c.args.window.now c.args._bytes c.args.header (search rules) (search rules) c.requires.header c.requires.told c.requires.kind.1 c.requires.kind.0, c.requires.kind.1)

pub returns : goal.returns
returns c =
    let p = take 4 (groups_behind c.args.window.now) in
    let k = late_told c.args.window.now c.args._bytes c.args.header (search rules) (search rules) c.requires.header c.requires.told c.requires.kind.1
    (local_late c.args.window.now c.args._bytes c.args.header (search rules) (search rules) c.requires.header c.requires.told c.requires.kind.1 c.requires.kind.0) in (
      omega (arith, k),
      omega (arith, k),
      inr (p, k.0 ∙ ap (λ (x : ℕ). x ∷ p) c.lateness_of.ensures, k.4, k.3, c.groups_in.ensures.value),
      c.groups_in.ensures.fits,
    )
