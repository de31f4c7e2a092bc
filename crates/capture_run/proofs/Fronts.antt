-- What a run of `show` wrote follows the whole capture, whose front may be lost.
use Rattle.std.proofs.Common.{◌≡◌, ℕ, List, ◌++◌, ap, ◌∙◌, subst, refl, Bool, true, Option, None, Some}
use Rattle.capture_actions.specs.Listing.{listing, listed, ending_by}
use Rattle.capture_actions.specs.declared.list_plan.ListPlan.{ListPlan}
use Rattle.capture_words.proofs.Calls.{one_job}
use Rattle.capture_words.specs.Calls.{AsksFor, AskedBy}
use Rattle.capture_words.specs.declared.job.Job.{Job}
use Rattle.capture_words.specs.declared.job.Task.{Task}
use Rattle.capture_words.specs.declared.reading.Asked.{Asked}
use Rattle.capture_words.specs.declared.reading.Asked.TheVariants.{Do}
use Rattle.capture_words.specs.Jobs.{IsSoundTask}
use Rattle.capture_words.specs.Values.{guesses_of}
use Rattle.recovery_listing.proofs.Faultless.{same_listing}
use Rattle.source_events.specs.Plan.{is_sound}
use Rattle.source_merge.specs.Answering.{fault_of}
use Rattle.resync_laws.specs.Report.{rest_plan}
use Rattle.resync_laws.proofs.ReportRest.{report_follows}
use Rattle.resync_laws.proofs.Skipping.{tail_skips}
use Rattle.source_events.specs.declared.plan.Plan.{Plan}
use Rattle.std.specs.Io.KnownBytes.{Appends}
use Rattle.trace_values.specs.Placed.{placed}
use Rattle.capture_run.specs.Actions.{HasDone, showing}
use Rattle.capture_run.specs.Fronts.{ListsRest, IsSoundWhole, FollowsWhole}
use Rattle.capture_run.specs.Run.{HasRun, Streams, Loses}
use Rattle.capture_run.specs.declared.status.Status.{Status}
use Rattle.capture_run.specs.declared.status.Status.TheVariants.{Done}
use Rattle.capture_run.proofs.Running.{same_lost}

-- words ask for one job, which is that of which they are told
pub same_job : (words : List (List ℕ)) (job mine : Job) (told : Asked) → AsksFor words job → AskedBy words told →
    told ≡ Do mine → job ≡ mine
same_job words job mine told asks by is =
    let asked : AsksFor words mine = subst (AskedBy words) is by in one_job words job mine asks asked

-- of a capture without a fault each way of reading lists the same, which is all that it makes of it
lists_same : (recover : Option Bool) (p : ListPlan) (bytes : List ℕ) → is_sound p.plan ≡ true →
    fault_of p.plan (placed bytes) ≡ None →
    (showing recover p).action.text bytes ++ (showing recover p).action.ending bytes ≡ listing p bytes
lists_same None p bytes sound none = refl
lists_same (Some guesses) p bytes sound none = same_listing p guesses bytes sound none

-- what is written where all is done: the lines and the end
all_written : (recover : Option Bool) (p : ListPlan) (limit : ℕ) (old new : Streams)
    (run : HasRun (showing recover p) limit old new Done) → Appends old.held new.held
    ((showing recover p).action.text run.bytes ++ (showing recover p).action.ending run.bytes)
all_written None p limit old new run = subst (Appends old.held new.held) run.writes.0.2 run.gained
all_written (Some guesses) p limit old new run = subst (Appends old.held new.held) run.writes.0.2 run.gained

-- of the task that lists the rest, where all is done
show_follows : (recover : Option Bool) (limit : ℕ) (old new : Streams) (whole : Plan) (lost left : List ℕ)
    → HasRun (showing recover (record { plan = rest_plan whole; only = None; window = None })) limit old new Done
    → Loses old.left new.left left → is_sound (rest_plan whole) ≡ true → IsSoundWhole whole lost left
    → FollowsWhole whole lost left old.held new.held
show_follows recover limit old new whole lost left run loses plan_sound sound =
    let law = report_follows whole lost left sound in
    let rest : ListPlan = record { plan = rest_plan whole; only = None; window = None } in
    let same = same_lost old.left new.left run.bytes left run.lost loses in
    let ends = ap (λ o. listed rest left ++ ending_by rest.plan (placed left) o) law.sound_from_0 in
    record {
      written = subst (Appends old.held new.held)
          (ap (λ b. (showing recover rest).action.text b ++ (showing recover rest).action.ending b) same
          ∙ lists_same recover rest left plan_sound law.sound_from_0 ∙ ends)
          (all_written recover rest limit old new run);
      offsets = law.report_is;
      follows = law;
      skipped = λ x kind mapped.
          tail_skips whole lost left law.reading x kind (law.sources x kind mapped).early (law.sources x kind mapped).rest_reads;
    }

pub follows_whole : (task : Task) (limit : ℕ) (old new : Streams) (status : Status) (whole : Plan) (lost left : List ℕ)
    → IsSoundTask task → HasDone task limit old new status → ListsRest whole task → status ≡ Done
    → Loses old.left new.left left → IsSoundWhole whole lost left → FollowsWhole whole lost left old.held new.held
follows_whole task limit old new status whole lost left task_sound run lists done loses sound =
    let shown = subst (λ (t : Task). HasDone t limit old new status) lists.1 run in
    let recover = guesses_of lists.0 in
    show_follows recover limit old new whole lost left
    (subst (HasRun (showing recover (record { plan = rest_plan whole; only = None; window = None })) limit old new)
    done shown) loses (subst IsSoundTask lists.1 task_sound) sound
