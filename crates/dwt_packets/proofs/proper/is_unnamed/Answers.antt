use Rattle.std.proofs.Common.{ap, sym, refl, ◌∙◌}
use Rattle.dwt_packets.specs.Table.{is_other}
use Rattle.dwt_packets.proofs.FirstRow.{no_row}
use Rattle.dwt_packets.proofs.Inverses.{others}
use Rattle.dwt_packets.proofs.proper.is_unnamed.Goals as goal

pub returns-in-Other : goal.returns-in-Other
returns-in-Other c =
    (λ t. (others c.args.disc c.args.size c.args.value).0 (ap is_other (sym c.in-Other.ensures)), λ none. refl)

pub returns-in_default : goal.returns-in_default
returns-in_default c = (
  λ t. cc,
  λ none. absurd (c.in_default.not-Other c.args.disc c.args.size c.args.value (c.meaning.ensures ∙ no_row c.args.disc c.args.size c.args.value none)),
)
