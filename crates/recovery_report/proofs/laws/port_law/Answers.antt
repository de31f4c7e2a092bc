use Rattle.recovery_report.proofs.PortLaws as laws
use Rattle.recovery_report.proofs.laws.port_law.Goals as goal

pub returns : goal.returns
returns c = λ r at byte step cells none g e. laws.port r at byte step cells none g e
