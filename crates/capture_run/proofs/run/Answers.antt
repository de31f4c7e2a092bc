use Rattle.std.proofs.Common.{◌≤◌, length, subst}
use Rattle.capture_words.specs.declared.job.Job.{Job}
use Rattle.capture_run.specs.Actions.{IsSoundInput, limit_of}
use Rattle.capture_run.specs.Fronts.{ListsRest}
use Rattle.capture_run.specs.Rebuilds.{Writes}
use Rattle.capture_run.specs.Recovers.{GoesOn}
use Rattle.capture_run.specs.Run.{Streams, streams}
use Rattle.capture_run.proofs.Completing.{complete, goes_on, noted}
use Rattle.capture_run.proofs.Fronts.{same_job, follows_whole}
use Rattle.capture_run.proofs.Rebuilding.{rebuilds_script}
use Rattle.capture_run.proofs.Running.{done_unopened}
use Rattle.capture_run.proofs.run.Goals as goal

pub returns-in-Do-clause-memory_note : goal.returns-in-Do-clause-memory_note
returns-in-Do-clause-memory_note g c = λ none.
    let mine : Job = c.in-Do.job in
    noted mine.task mine.limit _ _ c.run_job.result c.run_job.ensures.ran none

pub returns-in-Do-clause-complete : goal.returns-in-Do-clause-complete
returns-in-Do-clause-complete g c = λ job bytes asks loses no_read no_write within sound.
    let mine : Job = c.in-Do.job in
    let same = same_job _ job mine _ asks c.read_words.ensures.asked c.in-Do.is in
    complete mine.task mine.limit _ _ c.run_job.result c.run_job.ensures.ran bytes loses
    (subst (λ (j : Job). length bytes ≤ limit_of j.task j.limit) same within)
    (subst (λ (j : Job). IsSoundInput j.task bytes) same sound)
    (λ e. no_read (c.run_job.ensures.caused.read_cause e)) (λ e. no_write (c.run_job.ensures.caused.write_cause e))

pub returns-in-Do-clause-goes_on : goal.returns-in-Do-clause-goes_on
returns-in-Do-clause-goes_on g c = λ job bytes asks on loses no_read no_write within.
    let mine : Job = c.in-Do.job in
    let same = same_job _ job mine _ asks c.read_words.ensures.asked c.in-Do.is in
    goes_on mine.task mine.limit _ _ c.run_job.result c.run_job.ensures.ran bytes
    (subst (λ (j : Job). GoesOn j.task) same on) loses (subst (λ (j : Job). length bytes ≤ j.limit) same within)
    (λ e. no_read (c.run_job.ensures.caused.read_cause e)) (λ e. no_write (c.run_job.ensures.caused.write_cause e))

pub returns-in-Do-clause-fronts : goal.returns-in-Do-clause-fronts
returns-in-Do-clause-fronts g c = λ job whole lost bytes asks lists loses sound done.
    let mine : Job = c.in-Do.job in
    let same = same_job _ job mine _ asks c.read_words.ensures.asked c.in-Do.is in
    follows_whole mine.task mine.limit _ _ c.run_job.result whole lost bytes
    (c.read_words.ensures.sound mine c.in-Do.is) c.run_job.ensures.ran
    (subst (λ (j : Job). ListsRest whole j.task) same lists) done loses sound

pub returns-in-Do-clause-reads_back : goal.returns-in-Do-clause-reads_back
returns-in-Do-clause-reads_back g c = λ job p script asks writes loses done.
    let mine : Job = c.in-Do.job in
    let same = same_job _ job mine _ asks c.read_words.ensures.asked c.in-Do.is in
    rebuilds_script mine.limit _ _ script loses mine.task p c.run_job.result
    (c.read_words.ensures.sound mine c.in-Do.is) c.run_job.ensures.ran
    (subst (λ (j : Job). Writes p j.task) same writes) done

pub returns-in-NoMemory-clause-ran : goal.returns-in-NoMemory-clause-ran
returns-in-NoMemory-clause-ran g c = λ job asks.
    let left = g.I.Source.left c.args.input.now in
    let held = g.O.Sink.held c.args.output.now in
    let old : Streams = streams left held (g.N.Sink.held c.args.notes.now) (g.N.Sink.faults c.args.notes.now) in
    done_unopened job.task job.limit old _ _ c.note-in-NoMemory.ensures.noted
