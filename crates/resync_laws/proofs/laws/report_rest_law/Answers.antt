use Rattle.resync_laws.proofs.ReportRest.{report_follows}
use Rattle.resync_laws.proofs.laws.report_rest_law.Goals as goal

pub returns : goal.returns
returns c = λ lost left e. report_follows c.args.plan.now lost left e
