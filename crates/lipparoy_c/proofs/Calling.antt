-- A run over memory that was lent to it is a call.
use Rattle.std.proofs.Common.{◌≡◌, ◌⊎◌, ℕ, ◌<◌, ◌≤◌, List, length, Some, ◌∙◌, arith}
use Rattle.std.specs.Prelude.{codes}
use Rattle.std.specs.declared.option.Option.{Option}
use Rattle.clap.specs.Words.{Text}
use Rattle.trace_io.specs.Causes.{Rose}
use Rattle.trace_stream.specs.Told.{Notes}
use Rattle.capture_words.specs.Calls.{AsksFor, Misuses, IsMisuse}
use Rattle.capture_words.specs.Texts.{usage_line}
use Rattle.capture_words.specs.declared.job.Job.{Job}
use Rattle.capture_words.specs.declared.usage.UsageFault.{UsageFault}
use Rattle.capture_run.specs.Actions.{HasDone, IsSoundInput, limit_of}
use Rattle.capture_run.specs.Fronts.{ListsRest, IsSoundWhole, FollowsWhole}
use Rattle.capture_run.specs.Rebuilds.{Rebuilds, Writes}
use Rattle.capture_run.specs.Recovers.{GoesOn, IsRecovered}
use Rattle.capture_run.specs.Run.{IsDoneOrNoMemory, Loses, Untouched}
use Rattle.capture_run.specs.Statuses.{number_of}
use Rattle.capture_run.specs.declared.status.Status.{Status}
use Rattle.capture_run.specs.declared.status.Status.TheVariants.{Done, Usage, ReadFault, WriteFault, NoMemory}
use Rattle.script_rebuild.specs.declared.plan.RebuildPlan.{RebuildPlan}
use Rattle.source_events.specs.declared.plan.Plan.{Plan}
use Rattle.lipparoy_c.specs.Calls.{HasCalled}
use Rattle.lipparoy_c.specs.declared.ended.Ended.{Ended}
use Rattle.lipparoy_c.proofs.Lending.{Lent, held_before, held_after, lent_keeps, never_failed, rose_some, told_fits}
use Rattle.lipparoy_c.proofs.Untagged.{old, new, only_notes, has_done, follows, rebuilds}

no_rise : Rose 0 0 → ⊥
no_rise rose = omega (arith, rose)

module _ (words : List Text) (input output notes : List ℕ) (ended : Ended) (status : Status) (first left : List ℕ)
    (written unnoted : ℕ) (whole : first ≡ input) (o : Lent output ended.output) (n : Lent notes ended.notes)
    (number : ended.status ≡ number_of status) where
  abbrev loses : List ℕ → Type 0
  loses bytes = Loses (Some first) (Some left) bytes

  abbrev no_rises : Type 0
  no_rises = Rose written o.faults → ⊥

  abbrev before : Option (List ℕ)
  before = held_before output ended.output o

  abbrev after : Option (List ℕ)
  after = held_after output ended.output o

  -- what `run` ensures, of sinks over memory and of a source that never fails
  pub record Ran : Type 0 where
    pub usage : status ≡ Usage → IsMisuse words
    pub misuse : IsMisuse words → (status ≡ Usage) ⊎ (status ≡ NoMemory)
    pub untouched : IsMisuse words → Untouched (Some first) (Some left) before after
    pub usage_note : (fault : UsageFault) → Misuses words fault → status ≡ Usage →
        Notes (held_before notes ended.notes n) (held_after notes ended.notes n) unnoted n.faults (usage_line fault)
    pub memory_note : status ≡ NoMemory →
        Notes (held_before notes ended.notes n) (held_after notes ended.notes n) unnoted n.faults (codes "no memory\n")
    pub ran : (job : Job) → AsksFor words job →
        HasDone job.task job.limit (old input first left output notes ended unnoted whole o n)
        (new input first left output notes ended unnoted whole o n) status
    pub read_cause : status ≡ ReadFault → Rose 0 0
    pub write_cause : status ≡ WriteFault → Rose written o.faults
    pub complete : (job : Job) (bytes : List ℕ) → AsksFor words job → loses bytes → (Rose 0 0 → ⊥) → no_rises →
        length bytes ≤ limit_of job.task job.limit → IsSoundInput job.task bytes → IsDoneOrNoMemory status
    pub goes_on : (job : Job) (bytes : List ℕ) → AsksFor words job → GoesOn job.task → loses bytes →
        (Rose 0 0 → ⊥) → no_rises → length bytes ≤ job.limit → IsRecovered status
    pub fronts : (job : Job) (plan : Plan) (lost bytes : List ℕ) → AsksFor words job → ListsRest plan job.task →
        loses bytes → IsSoundWhole plan lost bytes → status ≡ Done → FollowsWhole plan lost bytes before after
    pub reads_back : (job : Job) (p : RebuildPlan) (script : List ℕ) → AsksFor words job → Writes p job.task →
        loses script → status ≡ Done → Rebuilds p script before after

  no_write : ended.output < length output → no_rises
  no_write less = λ rose. never_failed output ended.output o less (rose_some written o.faults rose)

  pub called : Ran → HasCalled words input output notes ended
  called r = record {
    status = status;
    left = left;
    number = number;
    output_fits = told_fits output ended.output o;
    notes_fit = told_fits notes ended.notes n;
    usage = r.usage;
    misuse = r.misuse;
    untouched = λ misuse. let kept = r.untouched misuse in (kept.0 ∙ whole, lent_keeps output ended.output o kept.1);
    usage_note = λ fault is by.
        only_notes input first left output notes ended unnoted whole o n (usage_line fault) (r.usage_note fault is by);
    memory_note = λ by.
        only_notes input first left output notes ended unnoted whole o n (codes "no memory\n") (r.memory_note by);
    ran = λ job asks.
        has_done input first left output notes ended unnoted whole o n job.task job.limit status (r.ran job asks);
    no_read_fails = λ by. no_rise (r.read_cause by);
    write_cause = λ by. o.failed (rose_some written o.faults (r.write_cause by));
    complete = λ job bytes asks lost less within sound.
        r.complete job bytes asks (whole ∙ lost) no_rise (no_write less) within sound;
    goes_on = λ job bytes asks on lost less within.
        r.goes_on job bytes asks on (whole ∙ lost) no_rise (no_write less) within;
    fronts = λ job plan lost bytes asks lists parts sound done.
        follows input first left output notes ended unnoted whole o n plan lost bytes
        (r.fronts job plan lost bytes asks lists (whole ∙ parts) sound done);
    reads_back = λ job p script asks writes lost done.
        rebuilds input first left output notes ended unnoted whole o n p script
        (r.reads_back job p script asks writes (whole ∙ lost) done);
  }
