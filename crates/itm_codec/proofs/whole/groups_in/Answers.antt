use Rattle.std.proofs.Common.{◌<◌, ◌∙◌, ap, sym, subst, take, drop, rules}
use Rattle.itm_codec.specs.Lengths.{groups_behind}
use Rattle.itm_codec.specs.Names.{groups}
use Rattle.itm_codec.specs.Windows.{four_bytes}
use Rattle.itm_codec.proofs.Windows.{bytes_behind, bytes_front, four_at_most, groups_few, number_groups}
use Rattle.itm_codec.proofs.whole.groups_in.Goals as goal

pub returns-clause-value : goal.returns-clause-value
returns-clause-value c =
    let w = c.args.window.now in
    c.without_bits.ensures ∙ ap (λ x. groups (four_bytes x)) c.groups_bytes.ensures
    ∙ number_groups (take 4 (groups_behind w)) (four_at_most (groups_behind w)) (bytes_front 4 _ (bytes_front _ (drop 1 w) (bytes_behind w (search rules))))

pub returns-clause-fits : goal.returns-clause-fits
returns-clause-fits c =
    subst (λ x. x < 268435456) (sym (returns-clause-value c)) (groups_few (take 4 (groups_behind c.args.window.now)) (four_at_most (groups_behind c.args.window.now)))
