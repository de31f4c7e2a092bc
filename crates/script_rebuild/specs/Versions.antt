-- How a script is read (this project's profile), whose first line tells its version: what its lines say, up to the
-- first fault.
use Rattle.std.specs.Prelude.{ℕ, ◌+◌, List, [], ◌∷◌, ◌++◌, length, codes, ◌==◌, if◌then◌else◌, Option, None, Some}
use Rattle.std.specs.Prelude.{Result, Ok, Err, bytes_eq}
use Rattle.std.specs.List.{slice_split}
use Rattle.script_rebuild.specs.Names.{StpItem, is_unfit, Plan, Item, Itm, Dwt, Stp, Raw}
use Rattle.script_rebuild.specs.Names.{Line, Nothing, Of, Line2, One, Flush, Trigger, LineFault, Unfit, line_of, as_one}
use Rattle.script_rebuild.specs.Names.{line2_of}
use Rattle.stp_encoder.specs.Fitting.{version_after as stp_version}
use Rattle.script_text.specs.Lines.{◌>>=◌}
use Rattle.script_rebuild.specs.declared.version.Version.{Version}
use Rattle.script_rebuild.specs.declared.version.Version.TheVariants.{Unknown, First, Second}
use Rattle.script_rebuild.specs.Script.{given_items}

-- what is between line feeds; where the last byte is one, an empty line comes after it
abbrev pub lines_in : List ℕ → List (List ℕ)
lines_in bytes = slice_split (λ b. b == 10) bytes

-- == What a line says after others

-- an STP item has to be one that can be written after those that its source was given before
abbrev pub fitting_item : Line → List StpItem → Item → Result Line LineFault
fitting_item line before (Itm p) = Ok line
fitting_item line before (Dwt item) = Ok line
fitting_item line before (Stp item) = if is_unfit (stp_version before) item then Err Unfit else Ok line
fitting_item line before (Raw bytes) = Ok line

abbrev pub fitting_one : List Line2 → Line → Result Line LineFault
fitting_one before Nothing = Ok Nothing
fitting_one before (Of id item) = fitting_item (Of id item) (given_items id before) item

abbrev pub fitting : List Line2 → Line2 → Result Line2 LineFault
fitting before (One line) = as_one (fitting_one before line)
fitting before Flush = Ok Flush
fitting before (Trigger byte) = Ok (Trigger byte)

-- the first line of a script of version 2
abbrev pub header : List ℕ
header = codes "trace-script 2"

-- the first line tells the version of those after it
abbrev pub version_after : Version → List ℕ → Version
version_after Unknown text = if bytes_eq header text then Second else First
version_after First text = First
version_after Second text = Second

-- what a text says in each version
abbrev pub says_one : Plan → List Line2 → List ℕ → Result Line2 LineFault
says_one plan before text = as_one (line_of plan text) >>= fitting before

abbrev pub says_two : Plan → List Line2 → List ℕ → Result Line2 LineFault
says_two plan before text = line2_of plan text >>= fitting before

-- what it says after some lines, or its first fault: as the first line the header gives nothing, and any other one is
-- of version 1
abbrev pub says : Plan → Version → List Line2 → List ℕ → Result Line2 LineFault
says plan Unknown before text = if bytes_eq header text then Ok (One Nothing) else says_one plan before text
says plan First before text = says_one plan before text
says plan Second before text = says_two plan before text

-- == The lines of a script

-- the lines up to the first fault, and that fault with the number of its line, from 1 on
pub record Reading : Type 0 where
  pub lines : List Line2
  pub fault : Option (ℕ × LineFault)

-- what is read where a text has this answer after some lines
abbrev pub read_on : (Line2 → Reading) → List Line2 → Result Line2 LineFault → Reading
read_on more before (Ok line) = more line
read_on more before (Err fault) = record { lines = before; fault = Some (length before + 1, fault) }

-- what texts say after some lines, where this is what is known of the version
abbrev pub read_in : Plan → Version → List Line2 → List (List ℕ) → Reading
read_in plan version before [] = record { lines = before; fault = None }
read_in plan version before (text ∷ texts) =
    read_on (λ line. read_in plan (version_after version text) (before ++ line ∷ []) texts) before
    (says plan version before text)

-- what the texts of a script say: nothing is known of its version while the first line isn't there yet
abbrev pub read_texts : Plan → List (List ℕ) → Reading
read_texts plan texts = read_in plan Unknown [] texts

-- the version after all of these texts
abbrev pub version_then : Version → List (List ℕ) → Version
version_then version [] = version
version_then version (text ∷ texts) = version_then (version_after version text) texts

-- the reading of a whole script
abbrev pub script_of : Plan → List ℕ → Reading
script_of plan bytes = read_texts plan (lines_in bytes)
