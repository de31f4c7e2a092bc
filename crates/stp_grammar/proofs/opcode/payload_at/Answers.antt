use Rattle.stp_grammar.proofs.Lines.{payload_is, payload_few}
use Rattle.stp_grammar.proofs.opcode.payload_at.Goals as goal

pub returns-clause-count : goal.returns-clause-count
returns-clause-count c = payload_is c.args.number c.requires

pub returns-clause-few : goal.returns-clause-few
returns-clause-few c = payload_few c.args.number c.requires
