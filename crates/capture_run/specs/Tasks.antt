-- What a task did with its input, in the words of its user.
use Rattle.std.specs.Prelude.{ℕ, List, [], take, Bool, true, false}
use Rattle.std.specs.Io.KnownBytes.{Appends, Consumes, IsAtEnd, Keeps}
use Rattle.capture_actions.specs.Kinds.{kinds_summary}
use Rattle.capture_actions.specs.Summary.{summary}
use Rattle.recovery_listing.specs.Kinds as recovering_kinds
use Rattle.recovery_listing.specs.Summary as recovering
use Rattle.source_events.specs.declared.plan.Plan.{Plan}
use Rattle.trace_stream.specs.Served.{StopsWithin}
use Rattle.trace_stream.specs.Told.{Notes}
use Rattle.capture_run.specs.Run.{Streams}

-- It read all of the input. The output gained this text of it, and the notes, unless they failed, this one.
pub record WroteAll (old new : Streams) (text note : List ℕ → List ℕ) : Type 0 where
  pub bytes : List ℕ
  pub lost : Consumes old.left new.left bytes
  pub ended : IsAtEnd new.left
  pub gained : Appends old.held new.held (text bytes)
  pub noted : Notes old.noted new.noted old.note_faults new.note_faults (note bytes)

-- It read bytes of which those within the limit have a fault. The output gained this text of them, and the notes,
-- unless they failed, this one of the bytes up to the one with which the fault became certain.
pub record WroteUpTo (limit : ℕ) (faulty : List ℕ → Type 0) (old new : Streams) (text note : List ℕ → List ℕ)
    : Type 0 where
  pub bytes : List ℕ
  pub lost : Consumes old.left new.left bytes
  pub stop : StopsWithin faulty (take limit bytes)
  pub gained : Appends old.held new.held (text (take limit bytes))
  pub noted : Notes old.noted new.noted old.note_faults new.note_faults (note stop.seen)

-- It read nothing, and the output gained this text.
pub record WroteOnly (old new : Streams) (text : List ℕ) : Type 0 where
  pub lost : Keeps old.left new.left
  pub gained : Appends old.held new.held text
  pub noted : Notes old.noted new.noted old.note_faults new.note_faults []

-- the summary of `check`, with the counts of kinds or without, up to the first fault and over all
abbrev pub checked : Bool → Plan → List ℕ → List ℕ
checked false plan = summary plan
checked true plan = kinds_summary plan

abbrev pub checked_over : Bool → Plan → List ℕ → List ℕ
checked_over false plan = recovering.summary plan
checked_over true plan = recovering_kinds.kinds_summary plan
