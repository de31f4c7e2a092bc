use Rattle.trace_text.proofs.SaidTables.{timed_is, stamps_few}
use Rattle.trace_text.proofs.said.stamp_count.Goals as goal

pub returns-clause-timed : goal.returns-clause-timed
returns-clause-timed c = timed_is c.args.number c.requires

pub returns-clause-few : goal.returns-clause-few
returns-clause-few c = stamps_few c.args.number c.requires
