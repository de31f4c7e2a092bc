-- The table of opcodes (MIPI System Trace Protocol, version 2). Which packets are read, how long their payloads are,
-- and that other opcodes are refused, is this project's profile.
use Rattle.std.specs.Prelude.{ℕ, List, [], ◌∷◌, Bool, true, false, nat_eq, ◌==◌, ◌||◌, if◌then◌else◌, get_or, Option}
use Rattle.std.specs.Prelude.{None, Some}
use Rattle.std.specs.List.{find, list_any, list_all, starts_with}
use Rattle.stp_grammar.specs.declared.opcode.Head.{Head}
use Rattle.stp_grammar.specs.declared.opcode.Head.TheVariants.{Whole as HeadWhole, More as HeadMore}
use Rattle.stp_grammar.specs.declared.opcode.Head.TheVariants.{Refused as HeadRefused}
use Rattle.stp_grammar.specs.declared.packet.Width.TheVariants.{Four, Eight, Sixteen, ThirtyTwo, SixtyFour}
use Rattle.stp_grammar.specs.declared.packet.Row.{Row}
use Rattle.stp_grammar.specs.declared.packet.Row.TheVariants.{Null, Master8, MasterError, Channel8, Datum, Flag}
use Rattle.stp_grammar.specs.declared.packet.Row.TheVariants.{Master16, GlobalError, Channel16, Version, NullStamp}
use Rattle.stp_grammar.specs.declared.packet.Row.TheVariants.{Trigger, Frequency}

-- a line of the table: the row's number, the opcode's nibbles, how many nibbles the payload has, and whether a
-- timestamp follows it
pub record Line : Type 0 where
  pub number : ℕ
  pub opcode : List ℕ
  pub payload : ℕ
  pub stamped : Bool

abbrev pub line : ℕ → List ℕ → ℕ → Bool → Line
line number opcode payload stamped = record { number = number; opcode = opcode; payload = payload; stamped = stamped }

-- The table, with the standard's names beside it.
abbrev pub line_of : Row → Line
line_of Null = line 0 (0x0 ∷ []) 0 false  -- NULL
line_of Master8 = line 1 (0x1 ∷ []) 2 false  -- M8
line_of MasterError = line 2 (0x2 ∷ []) 2 false  -- MERR
line_of Channel8 = line 3 (0x3 ∷ []) 2 false  -- C8
line_of (Datum Eight false false) = line 4 (0x4 ∷ []) 2 false  -- D8
line_of (Datum Sixteen false false) = line 5 (0x5 ∷ []) 4 false  -- D16
line_of (Datum ThirtyTwo false false) = line 6 (0x6 ∷ []) 8 false  -- D32
line_of (Datum SixtyFour false false) = line 7 (0x7 ∷ []) 16 false  -- D64
line_of (Datum Eight true true) = line 8 (0x8 ∷ []) 2 true  -- D8MTS
line_of (Datum Sixteen true true) = line 9 (0x9 ∷ []) 4 true  -- D16MTS
line_of (Datum ThirtyTwo true true) = line 10 (0xA ∷ []) 8 true  -- D32MTS
line_of (Datum SixtyFour true true) = line 11 (0xB ∷ []) 16 true  -- D64MTS
line_of (Datum Four false false) = line 12 (0xC ∷ []) 1 false  -- D4
line_of (Datum Four true true) = line 13 (0xD ∷ []) 1 true  -- D4MTS
line_of (Flag true) = line 14 (0xE ∷ []) 0 true  -- FLAG_TS
line_of Master16 = line 15 (0xF ∷ 0x1 ∷ []) 4 false  -- M16
line_of GlobalError = line 16 (0xF ∷ 0x2 ∷ []) 2 false  -- GERR
line_of Channel16 = line 17 (0xF ∷ 0x3 ∷ []) 4 false  -- C16
line_of (Datum Eight false true) = line 18 (0xF ∷ 0x4 ∷ []) 2 true  -- D8TS
line_of (Datum Sixteen false true) = line 19 (0xF ∷ 0x5 ∷ []) 4 true  -- D16TS
line_of (Datum ThirtyTwo false true) = line 20 (0xF ∷ 0x6 ∷ []) 8 true  -- D32TS
line_of (Datum SixtyFour false true) = line 21 (0xF ∷ 0x7 ∷ []) 16 true  -- D64TS
line_of (Datum Eight true false) = line 22 (0xF ∷ 0x8 ∷ []) 2 false  -- D8M
line_of (Datum Sixteen true false) = line 23 (0xF ∷ 0x9 ∷ []) 4 false  -- D16M
line_of (Datum ThirtyTwo true false) = line 24 (0xF ∷ 0xA ∷ []) 8 false  -- D32M
line_of (Datum SixtyFour true false) = line 25 (0xF ∷ 0xB ∷ []) 16 false  -- D64M
line_of (Datum Four false true) = line 26 (0xF ∷ 0xC ∷ []) 1 true  -- D4TS
line_of (Datum Four true false) = line 27 (0xF ∷ 0xD ∷ []) 1 false  -- D4M
line_of (Flag false) = line 28 (0xF ∷ 0xE ∷ []) 0 false  -- FLAG
line_of Version = line 29 (0xF ∷ 0x0 ∷ 0x0 ∷ []) 1 false  -- VERSION
line_of NullStamp = line 30 (0xF ∷ 0x0 ∷ 0x1 ∷ []) 0 true  -- NULL_TS
line_of (Trigger false) = line 31 (0xF ∷ 0x0 ∷ 0x6 ∷ []) 2 false  -- TRIG
line_of (Trigger true) = line 32 (0xF ∷ 0x0 ∷ 0x7 ∷ []) 2 true  -- TRIG_TS
line_of (Frequency false) = line 33 (0xF ∷ 0x0 ∷ 0x8 ∷ []) 8 false  -- FREQ
line_of (Frequency true) = line 34 (0xF ∷ 0x0 ∷ 0x9 ∷ []) 8 true  -- FREQ_TS

-- its rows, in the order of their numbers
abbrev pub rows : List Row
rows =
    Null ∷ Master8 ∷ MasterError ∷ Channel8 ∷ Datum Eight false false ∷ Datum Sixteen false false
    ∷ Datum ThirtyTwo false false ∷ Datum SixtyFour false false ∷ Datum Eight true true ∷ Datum Sixteen true true
    ∷ Datum ThirtyTwo true true ∷ Datum SixtyFour true true ∷ Datum Four false false ∷ Datum Four true true ∷ Flag true
    ∷ Master16 ∷ GlobalError ∷ Channel16 ∷ Datum Eight false true ∷ Datum Sixteen false true
    ∷ Datum ThirtyTwo false true ∷ Datum SixtyFour false true ∷ Datum Eight true false ∷ Datum Sixteen true false
    ∷ Datum ThirtyTwo true false
    ∷ Datum SixtyFour true false ∷ Datum Four false true ∷ Datum Four true false ∷ Flag false ∷ Version ∷ NullStamp
    ∷ Trigger false ∷ Trigger true ∷ Frequency false ∷ Frequency true ∷ []

-- the row of this number, below 35
abbrev pub row_at : ℕ → Row
row_at number = get_or rows number Null

-- the row with whose opcode these nibbles begin
abbrev pub row_of : List ℕ → Option Row
row_of r = find (λ row. starts_with nat_eq r (line_of row).opcode) rows

-- they are the front of an opcode, or of ASYNC, which begins with nibbles F
abbrev pub is_front : List ℕ → Bool
is_front r = list_any (λ row. starts_with nat_eq (line_of row).opcode r) rows || list_all (λ b. b == 0xF) r

-- What nibbles begin: a packet of a row, whatever follows its opcode; they are only a front; or they begin nothing.
pub data Opening : Type 0 where
  Whole : Row → Opening
  More : Opening
  Refused : Opening

abbrev pub opening_by : Option Row → Bool → Opening
opening_by (Some row) front = Whole row
opening_by None front = if front then More else Refused

unfoldable pub opening_of : List ℕ → Opening
opening_of r = opening_by (row_of r) (is_front r)

-- what `opcode_of` answers for it
abbrev pub head_of : Opening → Head
head_of (Whole row) = HeadWhole (line_of row).number
head_of More = HeadMore
head_of Refused = HeadRefused

-- the one to three nibbles that it is given
abbrev pub listed : Option ℕ → List ℕ
listed None = []
listed (Some b) = b ∷ []

abbrev pub given : ℕ → Option ℕ → Option ℕ → List ℕ
given first None third = first ∷ []
given first (Some second) third = first ∷ second ∷ listed third
