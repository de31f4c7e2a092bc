use Rattle.std.proofs.Common.{◌≡◌, ℕ, List, ◌+◌, ◌*◌, ◌/◌, ◌%◌, ◌∷◌, take, drop, ◌∙◌, ap, arith, rules}
use Rattle.itm_codec.specs.Lengths.{groups_behind}
use Rattle.itm_codec.specs.Names.{extended, groups}
use Rattle.itm_codec.specs.Windows.{four_bytes}
use Rattle.itm_codec.proofs.Told.{extension_told}
use Rattle.itm_codec.proofs.Windows.{bit_is, bytes_behind, bytes_front, header_with, number_extended}
use Rattle.itm_codec.proofs.whole.long_extension.Goals as goal

pub returns : goal.returns
returns c =
    let w = c.args.window.now in
    let p : List ℕ = take 4 (groups_behind w) in
    let k = extension_told c.args.window.now c.args._bytes c.args.header (search rules) (search rules) c.requires.header c.requires.told c.requires.kind.1 c.requires.kind.2 c.requires.kind.0 in
    let n = number_extended p k.3 (bytes_front 4 _ (bytes_front _ (drop 1 w) (bytes_behind w (search rules)))) k.4 in
    let high : c.without_bits.result + 268435456 * (c.groups_bytes-kept.result / 2147483648) ≡ extended p =
    ap (λ x. x + 268435456 * (c.groups_bytes-kept.result / 2147483648)) c.without_bits.ensures
    ∙ ap (λ x. groups (four_bytes x) + 268435456 * (x / 2147483648)) c.groups_bytes-kept.ensures ∙ n.0 in
    let low = c.from.ensures in
    let few = n.1 in (
      omega (arith, k),
      omega (arith, k),
      (
        c.args.header / 16 % 8,
        p,
        omega arith,
        k.0 ∙ ap (λ (x : ℕ). x ∷ p) (header_with c.args.header p _ k.2 c.requires.kind (search rules) (bit_is (c.args.header / 4))),
        k.4,
        omega (arith, low, high),
      ),
      omega (arith, low, high, few),
    )
