-- The words of items' texts: the table of item words, and after each the words that an item's text has there.
use Rattle.std.specs.Prelude.{ℕ, List, [], ◌∷◌, Bool, true, false, map, ◌&&◌, Option, Some, None, if◌then◌else◌, codes}
use Rattle.std.specs.Prelude.{bytes_eq}
use Rattle.std.specs.Borrow.{Bor}
use Rattle.itm_grammar.specs.declared.packet.Size.TheVariants.{One, Two, Four as FourBytes}
use Rattle.itm_grammar.specs.declared.packet.Lateness.TheVariants.{Exact, StampLate, PacketLate, BothLate}
use Rattle.dwt_packets.specs.declared.item.Change.TheVariants.{Enter, Exit, Return}
use Rattle.stp_grammar.specs.declared.packet.Width.TheVariants.{Four, Eight, Sixteen, ThirtyTwo, SixtyFour}
use Rattle.script_text.specs.Table as table
use Rattle.script_text.specs.declared.shapes.Field.{Field as Coded}
use Rattle.script_text.specs.declared.shapes.Field.TheVariants.{Word as CodedWord, Number as CodedNumber}
use Rattle.script_text.specs.declared.shapes.Shape.{Shape}
use Rattle.script_text.specs.declared.shapes.Shape.TheVariants.{Itm, Dwt, Stp, Raw}
use Rattle.script_text.specs.declared.itm_shapes.ItmShape.TheVariants.{Sync, Overflow, Software, Local, GlobalFirst}
use Rattle.script_text.specs.declared.itm_shapes.ItmShape.TheVariants.{GlobalSecond, Extension}
use Rattle.script_text.specs.declared.dwt_shapes.DwtShape.TheVariants.{Counters, Exception, Sample, Asleep, MatchPc}
use Rattle.script_text.specs.declared.dwt_shapes.DwtShape.TheVariants.{MatchAddress, Read, Written, Other}
use Rattle.script_text.specs.declared.stp_shapes.StpShape.TheVariants.{Async, Version, MasterError, GlobalError, Datum}
use Rattle.script_text.specs.declared.stp_shapes.StpShape.TheVariants.{Flag, Trigger, Frequency, NullStamp}

-- a word of an item's text: this very word, or a number or a timestamp
pub data Field : Type 0 where
  Word : List ℕ → Field
  Number : Field

abbrev pub seen : Coded → Field
seen (CodedWord word) = Word word.now
seen CodedNumber = Number

-- the words that texts of items begin with, each with the shapes of these items
abbrev pub first_words : List (List ℕ × List Shape)
first_words =
    (codes "sync", Itm Sync ∷ []) ∷
    (codes "overflow", Itm Overflow ∷ []) ∷
    (codes "port", Itm (Software One) ∷ Itm (Software Two) ∷ Itm (Software FourBytes) ∷ []) ∷
    (codes "local", Itm (Local Exact) ∷ Itm (Local StampLate) ∷ Itm (Local PacketLate) ∷ Itm (Local BothLate) ∷ []) ∷
    (codes "global1", Itm GlobalFirst ∷ []) ∷
    (codes "global2", Itm (GlobalSecond false) ∷ Itm (GlobalSecond true) ∷ []) ∷
    (codes "ext", Itm (Extension false) ∷ Itm (Extension true) ∷ []) ∷
    (codes "counters", Dwt Counters ∷ []) ∷
    (codes "exception", Dwt (Exception Enter) ∷ Dwt (Exception Exit) ∷ Dwt (Exception Return) ∷ []) ∷
    (codes "pc", Dwt Sample ∷ []) ∷
    (codes "asleep", Dwt Asleep ∷ []) ∷ (
      codes "cmp",
      Dwt MatchPc ∷ Dwt MatchAddress ∷ Dwt (Read One) ∷ Dwt (Read Two) ∷ Dwt (Read FourBytes)
          ∷ Dwt (Written One) ∷ Dwt (Written Two) ∷ Dwt (Written FourBytes) ∷ [],
    ) ∷
    (codes "hw", Dwt (Other One) ∷ Dwt (Other Two) ∷ Dwt (Other FourBytes) ∷ []) ∷
    (codes "async", Stp Async ∷ []) ∷
    (codes "version", Stp Version ∷ []) ∷
    (codes "merr", Stp MasterError ∷ []) ∷
    (codes "gerr", Stp GlobalError ∷ []) ∷ (
      codes "data",
      Stp (Datum Four false) ∷ Stp (Datum Four true) ∷ Stp (Datum Eight false) ∷ Stp (Datum Eight true)
          ∷ Stp (Datum Sixteen false) ∷ Stp (Datum Sixteen true) ∷ Stp (Datum ThirtyTwo false)
          ∷ Stp (Datum ThirtyTwo true) ∷ Stp (Datum SixtyFour false) ∷ Stp (Datum SixtyFour true) ∷ [],
    ) ∷
    (codes "flag", Stp Flag ∷ []) ∷
    (codes "trig", Stp Trigger ∷ []) ∷
    (codes "freq", Stp Frequency ∷ []) ∷
    (codes "nullts", Stp NullStamp ∷ []) ∷
    (codes "raw", Raw ∷ []) ∷
    []

abbrev pub shapes_in : List (List ℕ × List Shape) → List ℕ → List Shape
shapes_in [] word = []
shapes_in ((first, shapes) ∷ rows) word = if bytes_eq word first then shapes else shapes_in rows word

-- the shapes of the items whose texts begin with this word
abbrev pub shapes_named : List ℕ → List Shape
shapes_named word = shapes_in first_words word

-- the words of a shape's texts after the first
abbrev pub plain : table.Field → Field
plain (table.Word word) = Word word
plain (table.Says kind) = Number

abbrev pub fields_of : Shape → List Field
fields_of shape = map plain (table.fields_of shape)

-- it may be this word
abbrev pub allows : Field → List ℕ → Bool
allows (Word fixed) word = bytes_eq fixed word
allows Number word = true

-- these are as many words, each of which may be there
abbrev pub fits : List Field → List (List ℕ) → Bool
fits [] [] = true
fits [] (word ∷ words) = false
fits (field ∷ fields) [] = false
fits (field ∷ fields) (word ∷ words) = allows field word && fits fields words

-- the first of some shapes that such words have, after the first word
abbrev pub first_fitting : List Shape → List (List ℕ) → Option Shape
first_fitting [] words = None
first_fitting (shape ∷ shapes) words = if fits (fields_of shape) words then Some shape else first_fitting shapes words

-- the shape of an item of these words: no two shapes fit the same words
unfoldable pub shape_named : List (List ℕ) → Option Shape
shape_named [] = None
shape_named (word ∷ words) = first_fitting (shapes_named word) words

-- the rows of the code's table, each a shape with its words after the first
abbrev pub Rows : Type 0
Rows = List (Shape × List Field)

abbrev pub row_seen : Shape × Bor (List Coded) → Shape × List Field
row_seen (shape, fields) = (shape, map seen fields.now)

abbrev pub texts_seen : Bor (List ℕ) × Bor (List (Shape × Bor (List Coded))) → List ℕ × Rows
texts_seen (first, rows) = (first.now, map row_seen rows.now)

-- those of a first word, and the first of them that words have
abbrev pub rows_in : List (List ℕ × Rows) → List ℕ → Rows
rows_in [] word = []
rows_in ((first, rows) ∷ texts) word = if bytes_eq word first then rows else rows_in texts word

abbrev pub first_row : Rows → List (List ℕ) → Option Shape
first_row [] words = None
first_row ((shape, fields) ∷ rows) words = if fits fields words then Some shape else first_row rows words
