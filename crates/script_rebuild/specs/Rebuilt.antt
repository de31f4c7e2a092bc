-- What a script becomes (this project's profile): its capture, of which the bytes so far make a front sure.
use Rattle.std.specs.Prelude.{◌≡◌, ℕ, ◌+◌, List, [], ◌∷◌, ◌++◌, length, drop, true, nat_lt, if◌then◌else◌, Option, None}
use Rattle.std.specs.Prelude.{Some, is_some, Err, false}
use Rattle.script_rebuild.specs.Names.{Meaning, Plan, all_but_last, Port, written, LineFault, Line2}
use Rattle.script_rebuild.specs.declared.version.Version.TheVariants.{Unknown}
use Rattle.script_rebuild.specs.Routed.{routed_by}
use Rattle.script_rebuild.specs.Script.{in_order}
use Rattle.script_rebuild.specs.Segments.{sure_lines, script_segments}
use Rattle.script_rebuild.specs.Versions.{lines_in, Reading, read_texts, says, script_of, version_then}
use Rattle.script_rebuild.specs.declared.plan.RebuildPlan.{RebuildPlan}

abbrev pub last_of : List (List ℕ) → List ℕ
last_of [] = []
last_of (line ∷ []) = line
last_of (line ∷ (next ∷ lines)) = last_of (next ∷ lines)

-- the line that is still open: what comes after the last line feed
abbrev pub open_line : List ℕ → List ℕ
open_line bytes = last_of (lines_in bytes)

-- a line that is too long already
abbrev pub too_long : List ℕ → List (List ℕ)
too_long line = if nat_lt 256 (length line) then line ∷ [] else []

-- the lines about which no further byte can change anything: those that ended, and the open one once it is too long
abbrev pub certain_lines : List ℕ → List (List ℕ)
certain_lines bytes = all_but_last (lines_in bytes) ++ too_long (open_line bytes)

-- what they say, up to the first fault
abbrev pub read_so_far : Plan → List ℕ → Reading
read_so_far plan bytes = read_texts plan (certain_lines bytes)

-- how what lines put goes to the port
abbrev pub port_of : RebuildPlan → Port
port_of p = record { every = p.every; halves = p.halves; funnel = p.funnel }

-- what is read of the certain lines, and of all where the script is at its end, up to the first that has a fault or no
-- place
abbrev pub routed_so_far : RebuildPlan → List ℕ → Reading
routed_so_far p bytes = routed_by p.funnel (read_so_far p.plan bytes)

abbrev pub routed_script : RebuildPlan → List ℕ → Reading
routed_script p bytes = routed_by p.funnel (script_of p.plan bytes)

-- one of the certain lines has a fault
abbrev pub IsFaulty : RebuildPlan → List ℕ → Type 0
IsFaulty p bytes = is_some (routed_so_far p bytes).fault ≡ true

-- what is written for them: what is sure of the capture of all that the lines before the first fault put
abbrev pub text : RebuildPlan → List ℕ → List ℕ
text p bytes = sure_lines (port_of p) p.plan.order (in_order p.plan.stp) (routed_so_far p bytes).lines

-- the capture of lines, and of a script, to its end
abbrev pub capture_of : RebuildPlan → List Line2 → List ℕ
capture_of p lines = written (port_of p) (script_segments p.plan lines)

abbrev pub script_capture : RebuildPlan → List ℕ → List ℕ
script_capture p bytes = capture_of p (routed_script p bytes).lines

-- what comes after the text where the script is at its end: what is left of the capture, and nothing where a line has a
-- fault, with or without a line feed
abbrev pub left_of : List ℕ → List ℕ → Option (ℕ × LineFault) → List ℕ
left_of whole front None = drop (length front) whole
left_of whole front (Some fault) = []

abbrev pub ending : RebuildPlan → List ℕ → List ℕ
ending p bytes = left_of (script_capture p bytes) (text p bytes) (routed_script p bytes).fault

abbrev pub rebuild_meaning : RebuildPlan → Meaning
rebuild_meaning p = record { faulty = IsFaulty p; text = text p; ending = ending p; due = false }

-- The fault is that of one of these texts, whose number, from 1 on, is this; and those before it have none.
pub record IsFirstFault (plan : Plan) (texts : List (List ℕ)) (number : ℕ) (fault : LineFault) : Type 0 where
  pub before : List (List ℕ)
  pub line : List ℕ
  pub after : List (List ℕ)
  pub parts : texts ≡ before ++ line ∷ after
  pub place : number ≡ length before + 1
  pub sound : (read_texts plan before).fault ≡ None
  pub refused : says plan (version_then Unknown before) (read_texts plan before).lines line ≡ Err fault
