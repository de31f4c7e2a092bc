-- What a call over memory did.
use Rattle.std.specs.Prelude.{◌≡◌, ◌⊎◌, ℕ, ◌<◌, ◌≤◌, List, [], ◌++◌, length, take, codes, Some}
use Rattle.clap.specs.Words.{Text}
use Rattle.capture_words.specs.Calls.{AsksFor, Misuses, IsMisuse}
use Rattle.capture_words.specs.Texts.{usage_line}
use Rattle.capture_words.specs.declared.job.Job.{Job}
use Rattle.capture_words.specs.declared.usage.UsageFault.{UsageFault}
use Rattle.capture_run.specs.Actions.{HasDone, IsSoundInput, limit_of}
use Rattle.capture_run.specs.Fronts.{ListsRest, IsSoundWhole, FollowsWhole}
use Rattle.capture_run.specs.Rebuilds.{Rebuilds, Writes}
use Rattle.capture_run.specs.Recovers.{GoesOn, IsRecovered}
use Rattle.capture_run.specs.Run.{IsDoneOrNoMemory}
use Rattle.capture_run.specs.Statuses.{number_of}
use Rattle.capture_run.specs.declared.status.Status.{Status}
use Rattle.capture_run.specs.declared.status.Status.TheVariants.{Done, Usage, ReadFault, WriteFault, NoMemory}
use Rattle.script_rebuild.specs.declared.plan.RebuildPlan.{RebuildPlan}
use Rattle.source_events.specs.declared.plan.Plan.{Plan}
use Rattle.lipparoy_c.specs.Memory.{before_run, after_run, NotesOnly}
use Rattle.lipparoy_c.specs.declared.ended.Ended.{Ended}

-- The words were run over the input, and these are the rooms of the output and of the notes after it. Each clause of
-- `run` is here, over memory: no read fails, and a write fails only where the output's room is full to its last byte.
pub record HasCalled (words : List Text) (input output notes : List ℕ) (ended : Ended) : Type 0 where
  -- how the run ended, and which bytes of the input it did not read
  pub status : Status
  pub left : List ℕ
  pub number : ended.status ≡ number_of status
  pub output_fits : ended.output ≤ length output
  pub notes_fit : ended.notes ≤ length notes
  -- the words
  pub usage : status ≡ Usage → IsMisuse words
  pub misuse : IsMisuse words → (status ≡ Usage) ⊎ (status ≡ NoMemory)
  pub untouched : IsMisuse words → (left ≡ input) × (ended.output ≡ 0)
  pub usage_note : (fault : UsageFault) → Misuses words fault → status ≡ Usage →
      NotesOnly notes ended (usage_line fault)
  -- want of memory
  pub memory_note : status ≡ NoMemory → NotesOnly notes ended (codes "no memory\n")
  -- what was read, written and noted, by the status
  pub ran : (job : Job) → AsksFor words job →
      HasDone job.task job.limit (before_run input) (after_run left output notes ended) status
  -- the causes of what the outside does, and that without a cause all is done
  pub no_read_fails : status ≡ ReadFault → ⊥
  pub write_cause : status ≡ WriteFault → ended.output ≡ length output
  pub complete : (job : Job) (bytes : List ℕ) → AsksFor words job → input ≡ bytes ++ left →
      ended.output < length output → length bytes ≤ limit_of job.task job.limit → IsSoundInput job.task bytes →
      IsDoneOrNoMemory status
  -- what goes on after faults is done, with or without faults, if the output's room is not full
  pub goes_on : (job : Job) (bytes : List ℕ) → AsksFor words job → GoesOn job.task → input ≡ bytes ++ left →
      ended.output < length output → length bytes ≤ job.limit → IsRecovered status
  -- where a front of the capture may be lost: what was written follows the whole
  pub fronts : (job : Job) (whole : Plan) (lost bytes : List ℕ) → AsksFor words job → ListsRest whole job.task →
      input ≡ bytes ++ left → IsSoundWhole whole lost bytes → status ≡ Done →
      FollowsWhole whole lost bytes (Some []) (Some (take ended.output output))
  -- what is rebuilt reads back as exactly what the lines of the script give each source
  pub reads_back : (job : Job) (p : RebuildPlan) (script : List ℕ) → AsksFor words job → Writes p job.task →
      input ≡ script ++ left → status ≡ Done → Rebuilds p script (Some []) (Some (take ended.output output))

-- there was no run: neither room was written to
pub record IsUnwritten (output_old output_new notes_old notes_new : List ℕ) (ended : Ended) : Type 0 where
  pub output : ended.output ≡ 0
  pub notes : ended.notes ≡ 0
  pub output_kept : output_new ≡ output_old
  pub notes_kept : notes_new ≡ notes_old
