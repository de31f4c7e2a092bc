-- The notes of a run.
use Rattle.std.specs.Prelude.{ℕ, List, [], ◌++◌, option_map, Some, None, Bool, true, false}
use Rattle.std.specs.declared.option.Option.{Option}
use Rattle.script_text.specs.Faults.{number_of, name_of}
use Rattle.script_text.specs.declared.line_fault.LineFault.{LineFault}
use Rattle.script_rebuild.specs.Rebuilder.{told as told_of_script}
use Rattle.trace_values.specs.declared.fault.Reason.{Reason}
use Rattle.trace_values.specs.Placed.{Place}
use Rattle.source_events.specs.Report.{stop_of}
use Rattle.trace_text.specs.FaultText.{fault_line}
use Rattle.trace_text.specs.NoteText.{last_line, script_fault_line, slipped_line, buffer_line, image_line, limit_line}
use Rattle.capture_run.specs.declared.actions.DoneNote.{DoneNote}
use Rattle.capture_run.specs.declared.actions.DoneNote.TheVariants.{Nothing, Realigned, Buffered}
use Rattle.capture_run.specs.declared.actions.FaultNote.{FaultNote}
use Rattle.capture_run.specs.declared.actions.FaultNote.TheVariants.{Capture, Script, Recovery, Image}
use Rattle.capture_run.specs.declared.status.Status.{Status}
use Rattle.capture_run.specs.declared.status.Status.TheVariants.{CaptureFault, ScriptFault, Recovered, BadImage, Limit}

-- the line of a fault of the port or of an ITM source, where there is one
abbrev pub fault_text : Option (Place × (Reason × Option ℕ)) → List ℕ
fault_text None = []
fault_text (Some fault) = fault_line false fault

-- the line of a script's fault, where there is one: with the number of its line
abbrev pub script_note : Option (ℕ × LineFault) → List ℕ
script_note None = []
script_note (Some fault) = script_fault_line fault.0 (number_of fault.1) (name_of fault.1)

-- what is noted at a fault, where these bytes are the last up to it
abbrev pub text_of : FaultNote → List ℕ → List ℕ
text_of (Capture stop) recent = fault_text (option_map stop_of stop) ++ last_line recent
text_of (Script fault) recent = script_note (option_map told_of_script fault)
text_of Recovery recent = []
text_of (Image size) recent = image_line size

-- what is noted where a run is done
abbrev pub done_text : DoneNote → List ℕ
done_text Nothing = []
done_text (Realigned slipped) = slipped_line slipped.skipped slipped.dropped slipped.patterns
done_text (Buffered pointer full dropped) = buffer_line pointer full dropped

-- how a run ends at such a fault
abbrev pub status_of : FaultNote → Status
status_of (Capture stop) = CaptureFault
status_of (Script fault) = ScriptFault
status_of Recovery = Recovered
status_of (Image size) = BadImage

-- only what is told of an image may be told of an input that has too many bytes
abbrev pub is_image : FaultNote → Bool
is_image (Image size) = true
is_image fault = false

-- what is noted where the input has more bytes than the limit, and how a run ends then
abbrev pub over_text : FaultNote → ℕ → List ℕ
over_text (Image size) limit = image_line size
over_text fault limit = limit_line limit

abbrev pub over_status : FaultNote → Status
over_status (Image size) = BadImage
over_status fault = Limit
