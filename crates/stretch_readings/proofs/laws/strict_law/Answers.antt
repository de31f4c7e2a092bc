use Rattle.stretch_readings.proofs.StretchLaws as laws
use Rattle.stretch_readings.proofs.laws.strict_law.Goals as goal

pub returns-clause-one : goal.returns-clause-one
returns-clause-one g c = λ reads way h u sound begins settles e. laws.strict reads way sound begins settles h u e

pub returns-clause-first : goal.returns-clause-first
returns-clause-first g c =
    λ reads way h u f sound begins settles e. laws.first_broken reads way sound begins settles h u f e
