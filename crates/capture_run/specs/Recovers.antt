-- How a run ends that goes on after faults, where nothing outside fails.
use Rattle.std.specs.Prelude.{◌≡◌, ◌≢◌, ◌⊎◌}
use Rattle.capture_words.specs.declared.job.Task.{Task}
use Rattle.capture_words.specs.declared.job.Task.TheVariants.{Show, Check, Text, Vcd}
use Rattle.capture_words.specs.declared.recover.Recover.TheVariants.{Off}
use Rattle.capture_run.specs.declared.status.Status.{Status}
use Rattle.capture_run.specs.declared.status.Status.TheVariants.{Done, NoMemory, Recovered}

-- the task goes on after faults
abbrev pub GoesOn : Task → Type 0
GoesOn (Show plan only window recover) = recover ≢ Off
GoesOn (Check plan recover kinds) = recover ≢ Off
GoesOn (Text plan port recover) = recover ≢ Off
GoesOn (Vcd plan hz recover) = recover ≢ Off
GoesOn task = ⊥

-- it was done, with or without faults, or there was no memory
abbrev pub IsRecovered : Status → Type 0
IsRecovered status = (status ≡ Done) ⊎ ((status ≡ Recovered) ⊎ (status ≡ NoMemory))
