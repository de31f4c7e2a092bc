use Rattle.stp_grammar.proofs.Lines.{row_is}
use Rattle.stp_grammar.proofs.opcode.row_at.Goals as goal

pub returns : goal.returns
returns c = row_is c.args.number c.requires
