use Rattle.trace_text.proofs.SaidTables.{digit_count_is, digits_few}
use Rattle.trace_text.proofs.said.digit_count.Goals as goal

pub returns-clause-count : goal.returns-clause-count
returns-clause-count c = digit_count_is c.args.number c.requires.number c.requires.written c.requires.hexadecimal

pub returns-clause-few : goal.returns-clause-few
returns-clause-few c = digits_few c.args.number c.requires.number
