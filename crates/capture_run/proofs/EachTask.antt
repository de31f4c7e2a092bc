-- What is done of a task is told by its meaning, but for those that read nothing.
use Rattle.std.proofs.Common.{◌⊎◌, ℕ, List, inl, inr}
use Rattle.capture_exercise.specs.Summary.{exercise_summary}
use Rattle.capture_words.specs.declared.job.Task.{Task}
use Rattle.capture_words.specs.declared.job.Task.TheVariants.{Exercise, Print}
use Rattle.capture_run.specs.Actions.{HasDone, limit_of, meaning_of}
use Rattle.capture_run.specs.Pages.{page_text}
use Rattle.capture_run.specs.Recovers.{GoesOn}
use Rattle.capture_run.specs.Run.{HasMade, HasRun, Streams}
use Rattle.capture_run.specs.declared.status.Status.{Status}

-- what was done of the task is a run by its meaning
pub record Reads (task : Task) : Type 0 where
  pub run : (limit : ℕ) (old new : Streams) (status : Status) → HasDone task limit old new status →
      HasRun (meaning_of task) (limit_of task limit) old new status
  pub done : (limit : ℕ) (old new : Streams) (status : Status) →
      HasRun (meaning_of task) (limit_of task limit) old new status → HasDone task limit old new status

-- it is the writing of a text, without any input
pub record Makes (task : Task) : Type 0 where
  pub text : List ℕ
  pub run : (limit : ℕ) (old new : Streams) (status : Status) → HasDone task limit old new status →
      HasMade text old new status
  pub done : (limit : ℕ) (old new : Streams) (status : Status) → HasMade text old new status →
      HasDone task limit old new status
  pub stops : GoesOn task → ⊥

abbrev pub Kind : Task → Type 0
Kind task = Reads task ⊎ Makes task

pub kind_of : (task : Task) → Kind task
kind_of (Exercise items lose) =
    inr (record { text = exercise_summary items lose; run = λ l s t e r. r; done = λ l s t e r. r; stops = λ on. on })
kind_of (Print page) =
    inr (record { text = page_text page; run = λ l s t e r. r; done = λ l s t e r. r; stops = λ on. on })
kind_of task = inl (record { run = λ l s t e r. r; done = λ l s t e r. r })
