use Rattle.std.proofs.Common.{◌∙◌}
use Rattle.stp_grammar.proofs.RowBits.{telling_is}
use Rattle.stp_grammar.proofs.said.tells_at.Goals as goal

pub returns : goal.returns
returns c = c.bit_of.ensures ∙ telling_is c.args.number c.requires
