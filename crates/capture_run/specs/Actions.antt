-- What each action that reads the input does: which bytes have a fault, what is written for them, what comes after it
-- at the end or at a fault, what is noted at the end and at a fault, and how the run ends then.
use Rattle.std.specs.Prelude.{◌≡◌, ℕ, Bool, List, [], ◌++◌, true, false, is_some, length, not, ◌==◌, Option, None}
use Rattle.std.specs.Prelude.{Some}
use Rattle.capture_words.specs.declared.job.Task.{Task}
use Rattle.capture_words.specs.declared.job.Task.TheVariants.{Show, Split, Check, Rebuild, Exercise, Realign, Ring}
use Rattle.capture_words.specs.declared.job.Task.TheVariants.{Unring, Text, Funnel, Vcd, Print}
use Rattle.capture_words.specs.Values.{guesses_of}
use Rattle.buffer_ring.specs.Image.{pointer, is_full, dropped}
use Rattle.capture_actions.specs.Port.{port_of}
use Rattle.capture_actions.specs.PortText.{port_text_meaning}
use Rattle.capture_actions.specs.declared.port_text_plan.PortTextPlan.{PortTextPlan}
use Rattle.capture_actions.specs.Realigned.{realign_meaning}
use Rattle.capture_actions.specs.Ring.{ring_meaning}
use Rattle.capture_actions.specs.Split.{split_meaning}
use Rattle.capture_actions.specs.declared.split_plan.SplitPlan.{SplitPlan}
use Rattle.capture_actions.specs.Kinds.{kinds_meaning}
use Rattle.capture_actions.specs.Listing.{show_meaning}
use Rattle.capture_actions.specs.Summary.{check_meaning}
use Rattle.capture_actions.specs.Unring.{unring_meaning}
use Rattle.capture_actions.specs.declared.list_plan.ListPlan.{ListPlan}
use Rattle.capture_actions.specs.declared.unring_plan.UnringPlan.{UnringPlan}
use Rattle.capture_exercise.specs.Summary.{exercise_summary}
use Rattle.source_events.specs.Report.{of_source}
use Rattle.source_merge.specs.Answering.{fault_of}
use Rattle.port_slip.specs.Segments.{realigned}
use Rattle.recovery_listing.specs.Listing.{is_faulty}
use Rattle.recovery_listing.specs.Near.{listing_meaning}
use Rattle.recovery_listing.specs.PortText as recovering_text
use Rattle.recovery_listing.specs.PortText.{noted_text}
use Rattle.recovery_listing.specs.Dump.{dump_meaning, noted_dump}
use Rattle.recovery_listing.specs.Kinds.{kinds_meaning_on}
use Rattle.recovery_listing.specs.Summary as recovering_summary
use Rattle.recovery_listing.specs.declared.going_on.GoingOn.{GoingOn}
use Rattle.source_events.specs.declared.plan.Plan.{Plan}
use Rattle.script_rebuild.specs.Rebuilt.{routed_script, rebuild_meaning}
use Rattle.script_rebuild.specs.declared.plan.RebuildPlan.{RebuildPlan}
use Rattle.trace_stream.specs.BuffersState.{BuffersState}
use Rattle.trace_stream.specs.Debt.{Debt}
use Rattle.trace_stream.specs.Fresh.{IsFresh}
use Rattle.trace_stream.specs.Served.{Meaning}
use Rattle.value_dump.specs.Vcd.{vcd_meaning}
use Rattle.value_dump.specs.declared.vcd_plan.VcdPlan.{VcdPlan}
use Rattle.trace_stream.specs.Recent.{last_sixteen}
use Rattle.trace_values.specs.Placed.{placed}
use Rattle.trace_text.specs.NoteText.{last_line, slipped_line, buffer_line, image_line}
use Rattle.capture_run.specs.Notes.{fault_text, script_note}
use Rattle.capture_run.specs.Pages.{page_text}
use Rattle.capture_run.specs.Rebuilds.{straight, funnelled}
use Rattle.capture_run.specs.Run.{TaskMeaning, TaskNotes, nothing, task_of, Streams, HasRun, HasMade}
use Rattle.capture_run.specs.declared.status.Status.{Status}
use Rattle.capture_run.specs.declared.status.Status.TheVariants.{CaptureFault, ScriptFault, Recovered, BadImage}

-- the note at a fault that is certain with the last of these bytes: the last sixteen of them
abbrev pub last_note : List ℕ → List ℕ
last_note seen = last_line (last_sixteen seen)

-- with `split` the line of the port's fault comes before it, since the output has none
abbrev pub split_note : SplitPlan → List ℕ → List ℕ
split_note plan seen = fault_text (of_source None (port_of plan.frames seen).fault) ++ last_note seen

-- and with `text` and `vcd` that of the report's fault, which may be the source's
abbrev pub report_note : Plan → List ℕ → List ℕ
report_note plan seen = fault_text (fault_of plan (placed seen)) ++ last_note seen

-- a fault of a capture is certain at some byte, and none is mended by what comes after it
abbrev pub captured : (List ℕ → List ℕ) → TaskNotes
captured note = record {
  late = λ bytes. false;
  done_note = λ bytes. [];
  fault_note = note;
  fault_status = CaptureFault;
  exact = false;
}

-- Where reading goes on after each fault, none ends it. Whether the report of the whole input has one tells how the run
-- ends; what is written, or was noted as the bytes came, tells the faults.
abbrev pub recovered_notes : Plan → TaskNotes
recovered_notes plan = record {
  late = is_faulty plan;
  done_note = λ bytes. [];
  fault_note = λ bytes. [];
  fault_status = Recovered;
  exact = false;
}

-- where a script ends, its last line needs no line feed, and may have a fault that it would not have if it went on; its
-- first fault is noted by its line
abbrev pub rebuild_notes : RebuildPlan → TaskNotes
rebuild_notes plan = record {
  late = λ bytes. is_some (routed_script plan bytes).fault;
  done_note = λ bytes. [];
  fault_note = λ bytes. script_note (routed_script plan bytes).fault;
  fault_status = ScriptFault;
  exact = false;
}

-- `exercise`, `help` and `version` read nothing
abbrev pub reads_nothing : List ℕ → TaskMeaning
reads_nothing text =
    let action : Meaning = record { faulty = λ bytes. ⊥; text = λ bytes. []; ending = λ bytes. text; due = false } in
    task_of action nothing (captured (λ bytes. []))

-- what realigning does not write is noted where it is done
abbrev pub realign_notes : TaskNotes
realign_notes = record {
  late = λ bytes. false;
  done_note = λ bytes. let r = realigned bytes in slipped_line r.skipped r.dropped r.patterns;
  fault_note = last_note;
  fault_status = CaptureFault;
  exact = false;
}

-- what tells the order of the bytes of an image of this size is noted where it is done
abbrev pub ring_notes : ℕ → TaskNotes
ring_notes size = record {
  late = λ bytes. false;
  done_note = λ bytes. buffer_line (pointer size bytes) (is_full size bytes) (dropped size bytes);
  fault_note = last_note;
  fault_status = CaptureFault;
  exact = false;
}

-- an input of another size than an image's is none, and nothing is written
abbrev pub unring_notes : UnringPlan → TaskNotes
unring_notes plan = record {
  late = λ bytes. not (length bytes == plan.size);
  done_note = λ bytes. [];
  fault_note = λ bytes. image_line plan.size;
  fault_status = BadImage;
  exact = true;
}

-- what is asked of a capture that is read on after each fault, with its guesses or without
abbrev pub going_on : {P : Type 0} → P → Bool → GoingOn P
going_on plan guesses = record { plan = plan; guesses = guesses }

-- What is made of a capture up to its first fault, or over all its faults: where reading goes on it is said whether
-- guesses are told.
abbrev pub stopping_or_going : Option Bool → TaskMeaning → (Bool → TaskMeaning) → TaskMeaning
stopping_or_going None stopping going = stopping
stopping_or_going (Some guesses) stopping going = going guesses

-- a listing over all faults
abbrev pub listing_on : GoingOn ListPlan → TaskMeaning
listing_on on = task_of (listing_meaning on) nothing (recovered_notes on.plan.plan)

-- a listing
abbrev pub showing : Option Bool → ListPlan → TaskMeaning
showing recover p =
    stopping_or_going recover (task_of (show_meaning p) nothing (captured last_note))
    (λ guesses. listing_on (going_on p guesses))

-- A summary up to a capture's first fault, and one over all its faults, with the counts of kinds or without. No guess
-- is counted.
abbrev pub checking : Option Bool → Bool → Plan → TaskMeaning
checking None false plan = task_of (check_meaning plan) nothing (captured last_note)
checking None true plan = task_of (kinds_meaning plan) nothing (captured last_note)
checking (Some guesses) false plan = task_of (recovering_summary.check_meaning plan) nothing (recovered_notes plan)
checking (Some guesses) true plan = task_of (kinds_meaning_on plan) nothing (recovered_notes plan)

-- the text of a stimulus port; the faults that reading goes on after are notes
abbrev pub text_on : GoingOn PortTextPlan → TaskMeaning
text_on on = task_of (recovering_text.port_text_meaning on) (noted_text on) (recovered_notes on.plan.plan)

abbrev pub texting : Option Bool → PortTextPlan → TaskMeaning
texting recover p =
    stopping_or_going recover (task_of (port_text_meaning p) nothing (captured (report_note p.plan)))
    (λ guesses. text_on (going_on p guesses))

-- and a value dump
abbrev pub dump_on : GoingOn VcdPlan → TaskMeaning
dump_on on = task_of (dump_meaning on) (noted_dump on) (recovered_notes on.plan.plan)

abbrev pub dumping : Option Bool → VcdPlan → TaskMeaning
dumping recover p =
    stopping_or_going recover (task_of (vcd_meaning p) nothing (captured (report_note p.plan)))
    (λ guesses. dump_on (going_on p guesses))

-- the writing of a script's capture
abbrev pub rebuilding : RebuildPlan → TaskMeaning
rebuilding p = task_of (rebuild_meaning p) nothing (rebuild_notes p)

-- what the task makes of the bytes of its input
abbrev pub meaning_of : Task → TaskMeaning
meaning_of (Show plan only window recover) =
    showing (guesses_of recover) (record { plan = plan; only = only; window = window })
meaning_of (Split frames id) =
    let plan : SplitPlan = record { frames = frames; id = id } in
    task_of (split_meaning plan) nothing (captured (split_note plan))
meaning_of (Text plan port recover) = texting (guesses_of recover) (record { plan = plan; port = port })
meaning_of (Vcd plan hz recover) = dumping (guesses_of recover) (record { plan = plan; hz = hz })
meaning_of (Check plan recover kinds) = checking (guesses_of recover) kinds plan
meaning_of (Rebuild plan sync half) = rebuilding (straight plan sync half)
meaning_of (Funnel plan sync half turns) = rebuilding (funnelled plan sync half turns)
meaning_of (Exercise items lose) = reads_nothing (exercise_summary items lose)
meaning_of (Print page) = reads_nothing (page_text page)
meaning_of Realign = task_of realign_meaning nothing realign_notes
meaning_of (Ring size) = task_of (ring_meaning size) nothing (ring_notes size)
meaning_of (Unring size at full) =
    let image : UnringPlan = record { size = size; pointer = at; full = full } in
    task_of (unring_meaning image) nothing (unring_notes image)

-- how many bytes of its input a task reads at most: as many as the words allow, or as an image is to have
abbrev pub limit_of : Task → ℕ → ℕ
limit_of (Unring size at full) limit = size
limit_of task limit = limit

-- What was read, written and noted, by the status. `exercise`, `help` and `version` read nothing.
abbrev pub HasDone : Task → ℕ → Streams → Streams → Status → Type 0
HasDone (Exercise items lose) limit old new status = HasMade (exercise_summary items lose) old new status
HasDone (Print page) limit old new status = HasMade (page_text page) old new status
HasDone task limit old new status = HasRun (meaning_of task) (limit_of task limit) old new status

-- an action that may be served over empty buffers
abbrev pub IsNew : Type 0 → (List ℕ → Type 0) → ℕ → Debt → List ℕ → Type 0
IsNew alive stands taken debt noted_first =
    (buffers : BuffersState) → buffers.pending ≡ [] → buffers.recent ≡ [] →
    IsFresh alive stands taken debt noted_first buffers

-- these bytes, as all of the input, have no fault
pub record IsSoundInput (task : Task) (bytes : List ℕ) : Type 0 where
  pub sound : (meaning_of task).action.faulty bytes → ⊥
  pub not_late : (meaning_of task).late bytes ≡ false
