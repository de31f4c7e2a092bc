-- The lines of scripts of version 2 (this project's profile): those of version 1, `flush`, and `125 trigger hh`.
use Rattle.std.specs.Prelude.{ℕ, ◌<◌, List, length, Bool, ◌==◌, ◌&&◌, nat_lt, if◌then◌else◌, codes, Result, Ok, Err}
use Rattle.std.specs.Prelude.{ok_or, bytes_eq}
use Rattle.script_text.specs.Names.{number_named, Plan}
use Rattle.script_text.specs.declared.lines.Line.{Line}
use Rattle.script_text.specs.declared.lines.Line.TheVariants.{Nothing}
use Rattle.script_text.specs.declared.version_two.Line2.{Line2}
use Rattle.script_text.specs.declared.version_two.Line2.TheVariants.{One, Flush, Trigger}
use Rattle.script_text.specs.declared.line_fault.LineFault.{LineFault}
use Rattle.script_text.specs.declared.line_fault.LineFault.TheVariants.{LongLine, BadLine, BadId, BadNumber, Mixed}
use Rattle.script_text.specs.Words.{word_of}
use Rattle.script_text.specs.Numbers.{hexadecimal_at}
use Rattle.script_text.specs.Lines.{◌>>=◌, is_nothing, by_words, line_of_words}
use Rattle.script_text.specs.Said.{IsSaid}

-- the line that ends a segment
abbrev pub flush_line : List ℕ
flush_line = codes "flush"

-- the words of a trigger: an ID, `trigger`, and one more
abbrev pub is_trigger : List (List ℕ) → Bool
is_trigger words = length words == 3 && bytes_eq (codes "trigger") (word_of words 1)

-- a trigger is a byte of source 125, or has a first fault: the ID, the two digits, the source
unfoldable pub trigger_said : List (List ℕ) → Result Line2 LineFault
trigger_said words = do
  number ← ok_or (number_named 1 126 (word_of words 0)) BadId
  byte ← ok_or (hexadecimal_at 2 words 2) BadNumber
  if number == 125 then Ok (Trigger byte) else Err Mixed

abbrev pub trigger_of : List (List ℕ) → Result Line2 LineFault
trigger_of words = if is_trigger words then trigger_said words else Err BadLine

-- a line of version 1, as one of version 2
abbrev pub as_one : Result Line LineFault → Result Line2 LineFault
as_one said = said >>= λ line. Ok (One line)

-- what words say: a trigger, or what they say in version 1
abbrev pub line2_of_words : Plan → List (List ℕ) → Result Line2 LineFault
line2_of_words plan words = if is_trigger words then trigger_said words else as_one (line_of_words plan words)

-- what a line without its line feed says, or its first fault
unfoldable pub line2_of : Plan → List ℕ → Result Line2 LineFault
line2_of plan line =
    if nat_lt 256 (length line) then Err LongLine
    else if bytes_eq flush_line line then Ok Flush
    else if is_nothing line then Ok (One Nothing)
    else by_words (line2_of_words plan) line

-- what lines of version 2 say is in its ranges, and of a source for it
abbrev pub IsSaid2 : Plan → Line2 → Type 0
IsSaid2 plan (One line) = IsSaid plan line
IsSaid2 plan Flush = Unit {0}
IsSaid2 plan (Trigger byte) = byte < 256

-- what version 2 alone says
abbrev pub IsNew : Line2 → Type 0
IsNew (One line) = ⊥
IsNew Flush = Unit {0}
IsNew (Trigger byte) = byte < 256
