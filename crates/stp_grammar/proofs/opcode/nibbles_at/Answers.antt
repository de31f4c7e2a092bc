use Rattle.stp_grammar.proofs.Lines.{nibbles_are, nibbles_few}
use Rattle.stp_grammar.proofs.opcode.nibbles_at.Goals as goal

pub returns-clause-count : goal.returns-clause-count
returns-clause-count c = nibbles_are c.args.number c.requires

pub returns-clause-few : goal.returns-clause-few
returns-clause-few c = nibbles_few c.args.number c.requires
