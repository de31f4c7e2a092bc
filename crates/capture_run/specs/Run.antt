-- What a run read, wrote and noted, by its status.
use Rattle.std.specs.Prelude.{◌≡◌, ◌⊎◌, ℕ, ◌+◌, ◌≤◌, List, [], ◌++◌, length, take, codes, Bool, true, false, Some}
use Rattle.std.specs.declared.option.Option.{Option}
use Rattle.std.specs.Io.KnownBytes.{Appends, Consumes, IsAtEnd, Keeps}
use Rattle.trace_io.specs.Causes.{Rose}
use Rattle.trace_stream.specs.Pumped.{Counts}
use Rattle.trace_stream.specs.Served.{Meaning, ServedBy}
use Rattle.trace_stream.specs.Written.{GrowsOnly}
use Rattle.trace_stream.specs.declared.outcome.Outcome.TheVariants.{AtEnd, FaultFound, ReadFailed, WriteFailed}
use Rattle.trace_stream.specs.declared.outcome.Outcome.TheVariants.{OverLimit}
use Rattle.trace_text.specs.NoteText.{limit_line}
use Rattle.trace_stream.specs.Told.{Notes}
use Rattle.capture_run.specs.declared.status.Status.{Status}
use Rattle.capture_run.specs.declared.status.Status.TheVariants.{Done, Usage, ReadFault, WriteFault}
use Rattle.capture_run.specs.declared.status.Status.TheVariants.{NoMemory, Limit, BadImage}

-- What a task makes of the bytes that it reads: what its action does; what is noted of them as they come; which bytes
-- have a fault where they are all of the input, one that further bytes might have mended; what is noted where they are
-- all and have none; what is noted where a fault is certain with the last of these bytes, or where they are all of the
-- input and have one; how the run ends then; and whether the input is to have exactly as many bytes as the limit, so
-- that it ends so where it has more, too.
pub record TaskMeaning : Type 1 where
  pub action : Meaning
  pub noted : List ℕ → List ℕ
  pub late : List ℕ → Bool
  pub done_note : List ℕ → List ℕ
  pub fault_note : List ℕ → List ℕ
  pub fault_status : Status
  pub exact : Bool

-- what is noted of the bytes that a task read where its run ends, how it ends at a fault, and whether its input is to
-- have exactly as many bytes as the limit
pub record TaskNotes : Type 0 where
  pub late : List ℕ → Bool
  pub done_note : List ℕ → List ℕ
  pub fault_note : List ℕ → List ℕ
  pub fault_status : Status
  pub exact : Bool

-- nothing, whatever the bytes
abbrev pub nothing : List ℕ → List ℕ
nothing = λ bytes. []

-- a task of this action, which notes this as the bytes come, and this at the end
abbrev pub task_of : Meaning → (List ℕ → List ℕ) → TaskNotes → TaskMeaning
task_of action noted notes = record {
  action = action;
  noted = noted;
  late = notes.late;
  done_note = notes.done_note;
  fault_note = notes.fault_note;
  fault_status = notes.fault_status;
  exact = notes.exact;
}

-- what the streams of a run show at a moment: the bytes that are left in the input, those that the output and the
-- notes took, and how often the notes failed
pub record Streams : Type 0 where
  pub left : Option (List ℕ)
  pub held : Option (List ℕ)
  pub noted : Option (List ℕ)
  pub note_faults : ℕ

-- those of an input with these bytes left, an output that took these, and notes that took these and failed so often
abbrev pub streams : Option (List ℕ) → Option (List ℕ) → Option (List ℕ) → ℕ → Streams
streams left held noted note_faults =
    record { left = left; held = held; noted = noted; note_faults = note_faults }

-- a fault became certain at some byte, and is noted
abbrev pub Stops : TaskMeaning → ℕ → Option (List ℕ) → List ℕ → List ℕ → List ℕ → Type 0
Stops m limit left bytes out note =
    (recent : List ℕ) × (served : ServedBy m.action limit left FaultFound bytes out recent)
    × (note ≡ m.noted served.0.seen ++ m.fault_note served.0.seen)

-- the whole input was read and has a fault that further bytes might have mended, and that is noted
abbrev pub EndsLate : TaskMeaning → ℕ → Option (List ℕ) → List ℕ → List ℕ → List ℕ → Type 0
EndsLate m limit left bytes out note =
    ServedBy m.action limit left AtEnd bytes out [] × IsAtEnd left × (m.late bytes ≡ true)
    × (note ≡ m.noted bytes ++ m.fault_note bytes)

-- the input has more bytes than it is to have, and that is noted
abbrev pub EndsOver : TaskMeaning → ℕ → Option (List ℕ) → List ℕ → List ℕ → List ℕ → Type 0
EndsOver m limit left bytes out note =
    ServedBy m.action limit left OverLimit bytes out []
    × (note ≡ m.noted (take limit bytes) ++ m.fault_note bytes)

-- A write failed, and that is noted. What is noted of bytes as they come is noted of those that were fed.
abbrev pub FailsWriting : TaskMeaning → ℕ → Option (List ℕ) → List ℕ → List ℕ → List ℕ → Type 0
FailsWriting m limit left bytes out note =
    ServedBy m.action limit left WriteFailed bytes out [] × (fed : List ℕ) × GrowsOnly fed (take limit bytes)
    × (note ≡ m.noted fed ++ codes "write fault\n")

-- The table of statuses: that of outcomes, and the note. The cases exclude each other.
abbrev pub WritesBy : TaskMeaning → ℕ → Option (List ℕ) → Status → List ℕ → List ℕ → List ℕ → Type 0
WritesBy m limit left Done bytes out note =
    ServedBy m.action limit left AtEnd bytes out [] × IsAtEnd left × (m.late bytes ≡ false)
    × (note ≡ m.noted bytes ++ m.done_note bytes)
WritesBy m limit left BadImage bytes out note =
    (m.exact ≡ true) × (EndsLate m limit left bytes out note ⊎ EndsOver m limit left bytes out note)
WritesBy m limit left ReadFault bytes out note =
    ServedBy m.action limit left ReadFailed bytes out [] × (note ≡ m.noted bytes ++ codes "read fault\n")
WritesBy m limit left Limit bytes out note =
    (m.exact ≡ false) × ServedBy m.action limit left OverLimit bytes out []
    × (note ≡ m.noted (take limit bytes) ++ limit_line limit)
WritesBy m limit left WriteFault bytes out note = FailsWriting m limit left bytes out note
WritesBy m limit left NoMemory bytes out note = (bytes ≡ []) × (out ≡ []) × (note ≡ codes "no memory\n")
WritesBy m limit left Usage bytes out note = ⊥
-- that of a fault: CaptureFault, ScriptFault or Recovered
WritesBy m limit left status bytes out note =
    (m.fault_status ≡ status) × (Stops m limit left bytes out note ⊎ EndsLate m limit left bytes out note)

-- The bytes are those that the input lost, at most one past the limit; out is what the output gained; and the note is
-- what the notes gained, unless they failed.
pub record HasRun (meaning : TaskMeaning) (limit : ℕ) (old new : Streams) (status : Status) : Type 0 where
  pub bytes : List ℕ
  pub out : List ℕ
  pub note : List ℕ
  pub lost : Consumes old.left new.left bytes
  pub gained : Appends old.held new.held out
  pub noted : Notes old.noted new.noted old.note_faults new.note_faults note
  pub at_most : length bytes ≤ limit + 1
  pub writes : WritesBy meaning limit new.left status bytes out note

-- at most one read gave no byte, and a run ends by a failed read or write only where a count of faults rose or is at
-- its last value
pub record IsCaused (old new : Counts) (status : Status) : Type 0 where
  pub one_empty_read : new.empty_reads ≤ old.empty_reads + 1
  pub read_cause : status ≡ ReadFault → Rose old.read_faults new.read_faults
  pub write_cause : status ≡ WriteFault → Rose old.write_faults new.write_faults

-- The same of a task that reads nothing and writes this text.
abbrev pub MakesBy : List ℕ → Status → List ℕ → List ℕ → Type 0
MakesBy text Done out note = (out ≡ text) × (note ≡ [])
MakesBy text WriteFault out note = GrowsOnly out text × (note ≡ codes "write fault\n")
MakesBy text NoMemory out note = (out ≡ []) × (note ≡ codes "no memory\n")
MakesBy text status out note = ⊥

pub record HasMade (text : List ℕ) (old new : Streams) (status : Status) : Type 0 where
  pub out : List ℕ
  pub note : List ℕ
  pub lost : Keeps old.left new.left
  pub gained : Appends old.held new.held out
  pub noted : Notes old.noted new.noted old.note_faults new.note_faults note
  pub makes : MakesBy text status out note

-- nothing was read, and nothing was written
abbrev pub Untouched : Option (List ℕ) → Option (List ℕ) → Option (List ℕ) → Option (List ℕ) → Type 0
Untouched left_old left_new held_old held_new = Keeps left_old left_new × Keeps held_old held_new

-- the input told its bytes, and lost these
abbrev pub Loses : Option (List ℕ) → Option (List ℕ) → List ℕ → Type 0
Loses (Some xs) (Some ys) bytes = xs ≡ bytes ++ ys
Loses _ _ bytes = ⊥

abbrev pub IsDoneOrNoMemory : Status → Type 0
IsDoneOrNoMemory status = (status ≡ Done) ⊎ (status ≡ NoMemory)
