use Rattle.recovery_report.proofs.PartLaws as laws
use Rattle.recovery_report.proofs.laws.growing_law.Goals as goal

pub returns : goal.returns
returns c = λ guesses plan parts m. laws.growing guesses plan parts m
