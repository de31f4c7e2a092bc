use Rattle.std.proofs.Common.{◌∙◌, ap, not}
use Rattle.stp_grammar.specs.Said.{said_item}
use Rattle.stp_grammar.proofs.RowBits.{speaks}
use Rattle.stp_grammar.proofs.said.Said.has_item.Goals as goal

pub returns : goal.returns
unfolding said_item
returns c =
    let said = c.args.self.now in
    ap not c.bit_of.ensures ∙ speaks said.place said.stamp said.number said.payload c.requires
