use Rattle.stretch_readings.proofs.StretchLaws as laws
use Rattle.stretch_readings.proofs.laws.words_law.Goals as goal

pub returns : goal.returns
returns g c = λ reads way h u sound e. laws.words reads way sound h e u
