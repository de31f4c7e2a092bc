use Rattle.trace_values.proofs.Runs.{long_ends, no_end}
use Rattle.trace_values.proofs.pattern.Pattern.ends.Goals as goal

pub returns-then-unit-self-clause-list : goal.returns-then-unit-self-clause-list
returns-then-unit-self-clause-list c = λ u apart r. long_ends c.args.self apart c.args.run c.args.unit u c.if-unit-self.true r

pub returns-else-unit-self-clause-list : goal.returns-else-unit-self-clause-list
returns-else-unit-self-clause-list c = λ u apart r. no_end c.args.self apart c.args.run c.args.unit u c.if-unit-self.false r
