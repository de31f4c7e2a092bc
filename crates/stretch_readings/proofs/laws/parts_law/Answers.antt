use Rattle.stretch_readings.proofs.StretchLaws as laws
use Rattle.stretch_readings.proofs.laws.parts_law.Goals as goal

pub returns : goal.returns
returns g c = λ reads way h l m. laws.parts reads way h l m
