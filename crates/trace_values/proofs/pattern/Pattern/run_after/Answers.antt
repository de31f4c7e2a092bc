use Rattle.trace_values.proofs.Runs.{over, grown, full}
use Rattle.trace_values.proofs.pattern.Pattern.run_after.Goals as goal

pub returns-then-unit-self-clause-list : goal.returns-then-unit-self-clause-list
returns-then-unit-self-clause-list c = λ u apart r. over c.args.self apart c.args.run c.args.unit u c.if-unit-self.true

pub returns-then-run-self-clause-list : goal.returns-then-run-self-clause-list
returns-then-run-self-clause-list c = λ u apart r. grown c.args.self apart c.args.run c.args.unit u c.if-unit-self.false c.if-run-self.true r

pub returns-else-run-self-clause-list : goal.returns-else-run-self-clause-list
returns-else-run-self-clause-list c = λ u apart r. full c.args.self apart c.args.run c.args.unit u c.if-unit-self.false c.if-run-self.false r
