use Rattle.stretch_readings.proofs.Guesses.{sound_said, sure_said}
use Rattle.stretch_readings.proofs.laws.guesses_law.Goals as goal

pub returns : goal.returns
returns g c = record {
  sure = λ reads way r. sure_said reads way r;
  none = λ reads way r. sound_said reads way r;
}
