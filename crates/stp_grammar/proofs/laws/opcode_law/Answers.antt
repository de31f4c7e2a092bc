use Rattle.stp_grammar.proofs.EachRow.{numbered}
use Rattle.stp_grammar.proofs.Openings.{number_is, opens}
use Rattle.stp_grammar.proofs.laws.opcode_law.Goals as goal

pub returns-clause-number : goal.returns-clause-number
returns-clause-number c = number_is

pub returns-clause-row : goal.returns-clause-row
returns-clause-row c = numbered

pub returns-clause-opcode : goal.returns-clause-opcode
returns-clause-opcode c = opens
