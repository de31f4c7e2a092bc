use Rattle.recovery_report.proofs.Parting.{parts_placed}
use Rattle.recovery_report.proofs.laws.placing_law.Goals as goal

pub returns : goal.returns
returns c = λ mode n k u rise. parts_placed mode u n k rise
