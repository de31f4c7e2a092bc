use Rattle.slip_laws.proofs.Following.{realigned_follows}
use Rattle.slip_laws.proofs.laws.realigned_report_law.Goals as goal

pub returns : goal.returns
returns c = λ input came. realigned_follows c.args.plan.now input came
