-- The lines of scripts (this project's profile).
use Rattle.std.specs.Prelude.{ℕ, List, [], ◌∷◌, length, Bool, true, ◌==◌, nat_lt, if◌then◌else◌, Option, Some, None}
use Rattle.std.specs.Prelude.{Result, Ok, Err, ok_or}
use Rattle.script_text.specs.Names.{number_named, Plan, SourceKind, kind_of}
use Rattle.source_events.specs.declared.plan.SourceKind.TheVariants as kinds
use Rattle.script_text.specs.declared.shapes.Shape.{Shape}
use Rattle.script_text.specs.declared.items.Item.{Item}
use Rattle.script_text.specs.declared.items.Item.TheVariants as items
use Rattle.script_text.specs.declared.lines.Line.{Line}
use Rattle.script_text.specs.declared.lines.Line.TheVariants.{Nothing, Of}
use Rattle.script_text.specs.declared.line_fault.LineFault.{LineFault}
use Rattle.script_text.specs.declared.line_fault.LineFault.TheVariants.{LongLine, BadLine, BadId, BadNumber, Unmapped}
use Rattle.script_text.specs.declared.line_fault.LineFault.TheVariants.{Mixed}
use Rattle.script_text.specs.Words.{are_printable, words_in, are_words}
use Rattle.script_text.specs.Shapes.{shape_named}
use Rattle.script_text.specs.Items.{item_of}

infixl 10 ◌>>=◌
abbrev pub ◌>>=◌ : {A B : Type 0} → Result A LineFault → (A → Result B LineFault) → Result B LineFault
(Ok x) >>= f = f x
(Err e) >>= f = Err e

-- packets of an ITM source, by what the source sends
abbrev pub by_itm : Option SourceKind → Line → Result Line LineFault
by_itm (Some kinds.Itm) line = Ok line
by_itm (Some kinds.Stp) line = Err Mixed
by_itm None line = Err Unmapped

-- items of an STP source
abbrev pub by_stp : Option SourceKind → Line → Result Line LineFault
by_stp (Some kinds.Stp) line = Ok line
by_stp (Some kinds.Itm) line = Err Mixed
by_stp None line = Err Unmapped

-- bytes, which are of a source that is not mapped, and not of the trigger source, 125
abbrev pub by_raw : Option SourceKind → ℕ → Line → Result Line LineFault
by_raw None id line = if id == 125 then Err Mixed else Ok line
by_raw (Some kind) id line = Err Mixed

-- the line of an item, where its source is one for it
abbrev pub taken_by : Option SourceKind → ℕ → Item → Result Line LineFault
taken_by kind id (items.Itm packet) = by_itm kind (Of id (items.Itm packet))
taken_by kind id (items.Dwt item) = by_itm kind (Of id (items.Dwt item))
taken_by kind id (items.Stp item) = by_stp kind (Of id (items.Stp item))
taken_by kind id (items.Raw bytes) = by_raw kind id (Of id (items.Raw bytes))

-- the answer of a reading that puts what a line says in a place
abbrev pub answer : Result (Unit {0}) LineFault → Line → Result Line LineFault
answer (Ok done) line = Ok line
answer (Err fault) line = Err fault

-- the line of an item of a shape and of these words
abbrev pub line_of_shape : Option SourceKind → ℕ → Shape → List (List ℕ) → Result Line LineFault
line_of_shape kind id shape words = ok_or (item_of shape words) BadNumber >>= taken_by kind id

-- what words say, or the first fault: no item has such words, the ID, the numbers, the source
unfoldable pub line_of_words : Plan → List (List ℕ) → Result Line LineFault
line_of_words plan [] = Err BadLine
line_of_words plan (id ∷ words) = do
  shape ← ok_or (shape_named words) BadLine
  number ← ok_or (number_named 1 126 id) BadId
  item ← ok_or (item_of shape words) BadNumber
  taken_by (kind_of plan number) number item

-- an empty line, or a remark, which begins with `#`
abbrev pub is_nothing : List ℕ → Bool
is_nothing [] = true
is_nothing (b ∷ line) = b == 35

-- what the words of a line say, where it has words of printable bytes
abbrev pub by_words : {T : Type 0} → (List (List ℕ) → Result T LineFault) → List ℕ → Result T LineFault
by_words said line =
    if are_printable line then (if are_words 0 (words_in line) then said (words_in line) else Err BadLine)
    else Err BadLine

-- what a line without its line feed says, or its first fault
unfoldable pub line_of : Plan → List ℕ → Result Line LineFault
line_of plan line =
    if nat_lt 256 (length line) then Err LongLine
    else if is_nothing line then Ok Nothing
    else by_words (line_of_words plan) line
