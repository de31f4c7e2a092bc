use Rattle.stp_grammar.proofs.Lines.{stamped_is}
use Rattle.stp_grammar.proofs.opcode.stamped_at.Goals as goal

pub returns : goal.returns
returns c = stamped_is c.args.number c.requires
