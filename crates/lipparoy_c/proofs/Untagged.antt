-- What a run did, over memory that was lent to it.
use Rattle.std.proofs.Common.{◌≡◌, ℕ, ◌<◌, List, [], length, take, Some, sym, ◌∙◌, arith}
use Rattle.std.proofs.lemmas.Bool.Decides.{nat_tests}
use Rattle.trace_io.specs.Causes.{Rose}
use Rattle.trace_stream.specs.Told.{Notes}
use Rattle.capture_words.specs.declared.job.Task.{Task}
use Rattle.capture_words.specs.declared.job.Task.TheVariants.{Exercise, Print}
use Rattle.capture_run.specs.Actions.{HasDone}
use Rattle.capture_run.specs.Fronts.{FollowsWhole}
use Rattle.capture_run.specs.Rebuilds.{Rebuilds}
use Rattle.capture_run.specs.Run.{HasMade, HasRun, Streams, TaskMeaning, streams}
use Rattle.capture_run.specs.declared.status.Status.{Status}
use Rattle.script_rebuild.specs.declared.plan.RebuildPlan.{RebuildPlan}
use Rattle.source_events.specs.declared.plan.Plan.{Plan}
use Rattle.lipparoy_c.specs.Memory.{before_run, after_run, refused, NotesOnly}
use Rattle.lipparoy_c.specs.declared.ended.Ended.{Ended}
use Rattle.lipparoy_c.proofs.Lending.{Lent, held_before, held_after, lent_appends, never_failed, rose_some}

-- a room that refused something tells it
refused_more : (taken : ℕ) (room : List ℕ) (faults : ℕ) → (0 < faults → taken ≡ length room) → 0 < faults →
    Rose 0 (refused taken room)
refused_more taken room faults full some = let here = full some in grind (arith, nat_tests, here)

module _ (input first left output notes : List ℕ) (ended : Ended) (faults : ℕ) (whole : first ≡ input)
    (o : Lent output ended.output) (n : Lent notes ended.notes) where
  abbrev pub old : Streams
  old = streams (Some first) (held_before output ended.output o) (held_before notes ended.notes n) faults

  abbrev pub new : Streams
  new = streams (Some left) (held_after output ended.output o) (held_after notes ended.notes n) n.faults

  pub lent_notes : (text : List ℕ) → Notes old.noted new.noted faults n.faults text →
      Notes (Some []) (Some (take ended.notes notes)) 0 (refused ended.notes notes) text
  lent_notes text noted = λ sound.
      lent_appends notes ended.notes n text (noted (λ rose.
      sound (refused_more ended.notes notes n.faults n.failed (rose_some faults n.faults rose))))

  pub only_notes : (text : List ℕ) → Notes old.noted new.noted faults n.faults text → NotesOnly notes ended text
  only_notes text noted = λ less.
      lent_appends notes ended.notes n text (noted (λ rose.
      never_failed notes ended.notes n less (rose_some faults n.faults rose)))

  has_run : (m : TaskMeaning) (limit : ℕ) (status : Status) → HasRun m limit old new status →
      HasRun m limit (before_run input) (after_run left output notes ended) status
  has_run m limit status r = record {
    bytes = r.bytes;
    out = r.out;
    note = r.note;
    lost = sym whole ∙ r.lost;
    gained = lent_appends output ended.output o r.out r.gained;
    noted = lent_notes r.note r.noted;
    at_most = r.at_most;
    writes = r.writes;
  }

  has_made : (text : List ℕ) (status : Status) → HasMade text old new status →
      HasMade text (before_run input) (after_run left output notes ended) status
  has_made text status r = record {
    out = r.out;
    note = r.note;
    lost = r.lost ∙ whole;
    gained = lent_appends output ended.output o r.out r.gained;
    noted = lent_notes r.note r.noted;
    makes = r.makes;
  }

  pub has_done : (task : Task) (limit : ℕ) (status : Status) → HasDone task limit old new status →
      HasDone task limit (before_run input) (after_run left output notes ended) status
  has_done (Exercise items lose) limit status done = has_made _ status done
  has_done (Print page) limit status done = has_made _ status done
  has_done task limit status done = has_run _ _ status done

  pub follows : (plan : Plan) (lost bytes : List ℕ) → FollowsWhole plan lost bytes old.held new.held →
      FollowsWhole plan lost bytes (Some []) (Some (take ended.output output))
  follows plan lost bytes r = record {
    written = lent_appends output ended.output o _ r.written;
    offsets = r.offsets;
    follows = r.follows;
    skipped = r.skipped;
  }

  pub rebuilds : (p : RebuildPlan) (script : List ℕ) → Rebuilds p script old.held new.held →
      Rebuilds p script (Some []) (Some (take ended.output output))
  rebuilds p script r = record {
    no_fault = r.no_fault;
    written = lent_appends output ended.output o _ r.written;
    reads = r.reads;
  }
