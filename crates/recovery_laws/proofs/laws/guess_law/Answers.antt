use Rattle.recovery_report.specs.Port.{recovered}
use Rattle.recovery_report.specs.Report.{parts_in}
use Rattle.recovery_laws.proofs.Guessed.{sure_first}
use Rattle.recovery_laws.proofs.Led.{no_guess_first}
use Rattle.recovery_report.proofs.Parting.{parts_in_order}
use Rattle.recovery_laws.proofs.laws.guess_law.Goals as goal

pub returns-clause-sure : goal.returns-clause-sure
returns-clause-sure c = λ plan n k u rise.
    sure_first plan (parts_in (recovered plan.frames u)) n (parts_in_order plan.frames u n k rise)

pub returns-clause-first : goal.returns-clause-first
returns-clause-first c = λ plan n k u rise.
    no_guess_first plan (parts_in (recovered plan.frames u)) n (parts_in_order plan.frames u n k rise)
