-- What the words of a call ask for.
use Rattle.std.specs.Prelude.{◌≡◌, ◌≢◌, ◌⊎◌, List, [], ⊤, Ok, Err}
use Rattle.clap.specs.Words.{Text}
use Rattle.capture_words.specs.Command.{IsCall, refusals, rows_of_words}
use Rattle.capture_words.specs.Jobs.{job_of}
use Rattle.capture_words.specs.declared.job.Job.{Job}
use Rattle.capture_words.specs.declared.reading.Asked.{Asked}
use Rattle.capture_words.specs.declared.reading.Asked.TheVariants.{Do, Fault, Refused, NoMemory}
use Rattle.capture_words.specs.declared.usage.UsageFault.{UsageFault}

-- the words are a call of the command, and ask for this job
pub record AsksFor (words : List Text) (job : Job) : Type 0 where
  pub call : IsCall words
  pub job_is : job_of (rows_of_words words) ≡ Ok job

-- the words are a call of the command, and this is their first fault
pub record Misuses (words : List Text) (fault : UsageFault) : Type 0 where
  pub call : IsCall words
  pub fault_is : job_of (rows_of_words words) ≡ Err fault

-- the words are no call of the command, or one with a fault
abbrev pub IsMisuse : List Text → Type 0
IsMisuse words = (IsCall words → ⊥) ⊎ ((fault : UsageFault) × Misuses words fault)

-- what the words ask for: only want of memory is free
abbrev pub AskedBy : List Text → Asked → Type 0
AskedBy words (Do job) = AsksFor words job
AskedBy words (Fault fault) = Misuses words fault
AskedBy words (Refused text) = refusals words ≢ []
AskedBy words NoMemory = ⊤
