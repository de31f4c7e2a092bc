use Rattle.recovery_report.specs.Port.{recovered}
use Rattle.recovery_report.specs.Report.{parts_in}
use Rattle.recovery_laws.proofs.Ordering.{only, ordered}
use Rattle.recovery_report.proofs.Parting.{parts_in_order}
use Rattle.recovery_laws.proofs.laws.order_law.Goals as goal

pub returns-clause-ordered : goal.returns-clause-ordered
returns-clause-ordered c = λ guesses plan n k u rise.
    ordered guesses plan (parts_in (recovered plan.frames u)) n (parts_in_order plan.frames u n k rise)

pub returns-clause-only : goal.returns-clause-only
returns-clause-only c = λ guesses plan n k u rise es.
    only guesses plan (parts_in (recovered plan.frames u)) n (parts_in_order plan.frames u n k rise) es
