-- The parts of the texts of data, flags, triggers, frequencies, NULL_TS and errors, by their rows in the table of
-- opcodes, and of ASYNC, which is a word; and the line of what a packet says.
use Rattle.std.specs.Prelude.{ℕ, ◌==◌, ◌||◌, List, [], ◌++◌, codes, decimal, Bool, true, false, Option, Some, None}
use Rattle.std.specs.Prelude.{if◌then◌else◌}
use Rattle.stp_grammar.specs.declared.packet.Row.{Row}
use Rattle.stp_grammar.specs.declared.packet.Row.TheVariants.{Null, Datum, Flag, NullStamp, Trigger, MasterError}
use Rattle.stp_grammar.specs.declared.packet.Row.TheVariants.{GlobalError, Frequency}
use Rattle.stp_grammar.specs.Opcodes.{line_of, row_at}
use Rattle.stp_grammar.specs.declared.item.Place.{Place}
use Rattle.stp_grammar.specs.declared.item.Stamp.{Stamp}
use Rattle.stp_grammar.specs.declared.item.StpItem.{StpItem}
use Rattle.trace_text.specs.HexDigits.{hex_digits}
use Rattle.trace_text.specs.LineText.{event_line, stp_event}
use Rattle.trace_text.specs.StpText.{mark_text, place_text, stamp_text, stp_text, width_text}
use Rattle.trace_text.specs.declared.remark.Remark.TheVariants.{None as NoRemark}

-- it is one of these rows
abbrev pub is_written : Row → Bool
is_written (Datum width marked stamped) = true
is_written (Flag stamped) = true
is_written NullStamp = true
is_written (Trigger stamped) = true
is_written (Frequency stamped) = true
is_written MasterError = true
is_written GlobalError = true
is_written row = false

-- or an ASYNC, whose number is 35: all parts but the word are those of NULL
abbrev pub is_told : ℕ → Bool
is_told number = if number == 35 then true else is_written (row_at number)

-- the first word
abbrev pub word_at : Row → List ℕ
word_at (Datum width marked stamped) = codes "data "
word_at (Flag stamped) = codes "flag "
word_at (Trigger stamped) = codes "trig "
word_at (Frequency stamped) = codes "freq "
word_at MasterError = codes "merr "
word_at GlobalError = codes "gerr "
word_at row = codes "nullts "

abbrev pub word_of : ℕ → List ℕ
word_of number = if number == 35 then codes "async" else word_at (row_at number)

-- only a datum, a flag and an error of a master have a place
abbrev pub is_placed : Row → Bool
is_placed (Datum width marked stamped) = true
is_placed (Flag stamped) = true
is_placed MasterError = true
is_placed row = false

abbrev pub place_at : Row → Place → List ℕ
place_at row place = if is_placed row then place_text place else []

-- what is after the place, before the value, if there is one
abbrev pub width_at : Row → List ℕ
width_at (Datum width marked stamped) = codes " " ++ (width_text width ++ codes " ")
width_at (Flag stamped) = codes " "
width_at MasterError = codes " "
width_at row = []

-- only a frequency's value is put in decimal
abbrev pub is_counted : Row → Bool
is_counted (Frequency stamped) = true
is_counted row = false

-- which is after those of all other rows, and of ASYNC comes none
abbrev pub is_late : ℕ → Bool
is_late number = is_counted (row_at number) || number == 35

-- the value, where the row has one
abbrev pub value_at : Row → ℕ → List ℕ
value_at row value = if is_counted row then decimal value else hex_digits (line_of row).payload value

-- what is after the value, before the timestamp
abbrev pub mark_at : Row → List ℕ
mark_at (Datum width marked stamped) = codes " " ++ (mark_text marked ++ codes " ")
mark_at (Trigger stamped) = codes " "
mark_at (Frequency stamped) = codes " "
mark_at row = []

-- only an error and NULL have no timestamp
abbrev pub is_timed : Row → Bool
is_timed MasterError = false
is_timed GlobalError = false
is_timed Null = false
is_timed row = true

abbrev pub stamp_at : Row → Stamp → List ℕ
stamp_at row stamp = if is_timed row then stamp_text stamp else []

-- the text of an item, where there is one, and its line
abbrev pub said_text : Option StpItem → List ℕ
said_text None = []
said_text (Some item) = stp_text item

abbrev pub said_line : ℕ → ℕ → ℕ → Option StpItem → List ℕ
said_line at half id None = []
said_line at half id (Some item) = event_line true (stp_event at half id item) NoRemark
