-- The table of items' texts (docs/formats.md, 'Scripts' and 'Texts'): for each shape a row, which is its first word,
-- the fields after it with their ranges, and the item that their values make. A text is these words, joined by spaces;
-- it is read word by word.
use Rattle.std.specs.Prelude.{ℕ, suc, ◌*◌, ◌/◌, ◌-◌, ◌^◌, ◌<◌, ◌≤◌, List, [], ◌∷◌, length, codes, decimal, Bool, not}
use Rattle.std.specs.Prelude.{◌&&◌, ◌||◌, ◌==◌, nat_lt, nat_le, if◌then◌else◌, Option, Some, None, option_map, IsSome}
use Rattle.std.specs.Option.{ForSome}
use Rattle.hex.specs.Hex.{encode_lower, IsBytes}
use Rattle.script_text.specs.Names.{first_bits, second_bits, byte_count, Size, ItmPacket, DwtItem, bits_of}
use Rattle.script_text.specs.Names.{IsProperStamp, Stamp, Place, StpItem, lateness_text}
use Rattle.script_text.specs.Names.{known_text, width_text, mark_text, stamp_text, number_named}
use Rattle.itm_grammar.specs.declared.packet.Size.TheVariants.{One, Two, Four as FourBytes}
use Rattle.itm_grammar.specs.declared.packet.ItmPacket.TheVariants as itm
use Rattle.dwt_packets.specs.declared.item.DwtItem.TheVariants as dwt
use Rattle.dwt_packets.specs.Table.{name}
use Rattle.dwt_packets.specs.declared.item.Change.{Change}
use Rattle.dwt_packets.specs.declared.item.Change.TheVariants.{Enter, Exit, Return}
use Rattle.stp_grammar.specs.declared.item.Stamp.TheVariants.{None as NoStamp}
use Rattle.stp_grammar.specs.declared.item.StpItem.TheVariants as stp
use Rattle.trace_text.specs.HexDigits.{hex_digits}
use Rattle.script_text.specs.declared.shapes.Shape.{Shape}
use Rattle.script_text.specs.declared.shapes.Shape.TheVariants.{Itm, Dwt, Stp, Raw}
use Rattle.script_text.specs.declared.itm_shapes.ItmShape.{ItmShape}
use Rattle.script_text.specs.declared.itm_shapes.ItmShape.TheVariants.{Sync, Overflow, Software, Local, GlobalFirst}
use Rattle.script_text.specs.declared.itm_shapes.ItmShape.TheVariants.{GlobalSecond, Extension}
use Rattle.script_text.specs.declared.dwt_shapes.DwtShape.{DwtShape}
use Rattle.script_text.specs.declared.dwt_shapes.DwtShape.TheVariants.{Counters, Exception, Sample, Asleep, MatchPc}
use Rattle.script_text.specs.declared.dwt_shapes.DwtShape.TheVariants.{MatchAddress, Read, Written, Other}
use Rattle.script_text.specs.declared.stp_shapes.StpShape.{StpShape}
use Rattle.script_text.specs.declared.stp_shapes.StpShape.TheVariants.{Async, Version, MasterError, GlobalError, Datum}
use Rattle.script_text.specs.declared.stp_shapes.StpShape.TheVariants.{Flag, Trigger, Frequency, NullStamp}
use Rattle.script_text.specs.Steps.{◌>>=◌}
use Rattle.script_text.specs.Words.{word_of}
use Rattle.script_text.specs.Numbers.{hexadecimal_named}
use Rattle.script_text.specs.Stamps.{stamp_named}
use Rattle.script_text.specs.Bytes.{bytes_named}

-- what a word says that is not fixed: a decimal up to this, one of an item's place, which a listing has as `-` where it
-- is not known, a number of this many hexadecimal digits, a timestamp, or bytes
pub data Kind : Type 0 where
  Upto : ℕ → Kind
  Known : ℕ → Kind
  Digits : ℕ → Kind
  Time : Kind
  Bytes : Kind

pub data Field : Type 0 where
  Word : List ℕ → Field
  Says : Kind → Field

abbrev pub Value : Kind → Type 0
Value (Upto most) = ℕ
Value (Known most) = Option ℕ
Value (Digits count) = ℕ
Value Time = Stamp
Value Bytes = List ℕ

abbrev pub text : (kind : Kind) → Value kind → List ℕ
text (Upto most) n = decimal n
text (Known most) n = known_text n
text (Digits count) n = hex_digits count n
text Time stamp = stamp_text stamp
text Bytes bytes = encode_lower bytes

abbrev pub value_of : (kind : Kind) → List ℕ → Option (Value kind)
value_of (Upto most) word = number_named 0 most word
value_of (Known most) word = option_map Some (number_named 0 most word)
value_of (Digits count) word = hexadecimal_named count word
value_of Time word = stamp_named word
value_of Bytes word = bytes_named word

-- a value is in its range
abbrev pub Fits : (kind : Kind) → Value kind → Type 0
Fits (Upto most) n = n ≤ most
Fits (Known most) n = IsSome n × ForSome n (λ k. k ≤ most)
Fits (Digits count) n = n < 16 ^ count
Fits Time stamp = IsProperStamp stamp
Fits Bytes bytes = (1 ≤ length bytes) × (length bytes ≤ 100) × IsBytes bytes

-- the values of the words that are not fixed, their words, and their ranges
abbrev pub Values : List Field → Type 0
Values [] = Unit {0}
Values (Word word ∷ fields) = Values fields
Values (Says kind ∷ fields) = Value kind × Values fields

abbrev pub words_with : (fields : List Field) → Values fields → List (List ℕ)
words_with [] values = []
words_with (Word word ∷ fields) values = word ∷ words_with fields values
words_with (Says kind ∷ fields) (value, values) = text kind value ∷ words_with fields values

abbrev pub AllFit : (fields : List Field) → Values fields → Type 0
AllFit [] values = Unit {0}
AllFit (Word word ∷ fields) values = AllFit fields values
AllFit (Says kind ∷ fields) (value, values) = Fits kind value × AllFit fields values

-- what the words from this number on say
abbrev pub values_at : (fields : List Field) → ℕ → List (List ℕ) → Option (Values fields)
values_at [] k words = Some tt
values_at (Word word ∷ fields) k words = values_at fields (suc k) words
values_at (Says kind ∷ fields) k words = do
  value ← value_of kind (word_of words k)
  values ← values_at fields (suc k) words
  Some (value, values)

abbrev pub size_word : Size → List ℕ
size_word One = codes "u8"
size_word Two = codes "u16"
size_word FourBytes = codes "u32"

abbrev pub change_word : Change → List ℕ
change_word Enter = codes "enter"
change_word Exit = codes "exit"
change_word Return = codes "return"

-- a row of the table
pub data Row (A : Type 0) : Type 0 where
  row : List ℕ → (fields : List Field) → (Values fields → Option A) → Row A

abbrev pub word_in : {A : Type 0} → Row A → List ℕ
word_in (row word fields make) = word

abbrev pub fields_in : {A : Type 0} → Row A → List Field
fields_in (row word fields make) = fields

abbrev pub made_in : {A : Type 0} → (r : Row A) → Values (fields_in r) → Option A
made_in (row word fields make) values = make values

-- what words say by a row
abbrev pub said_in : {A : Type 0} → Row A → List (List ℕ) → Option A
said_in (row word fields make) words = values_at fields 1 words >>= make

-- the bits of a first global timestamp fit its bytes, and only four bytes have clock change and wrap
abbrev pub is_first : ℕ → ℕ → Bool → Bool → Bool
is_first len value change wrap =
    (nat_lt 0 len && nat_le len 4 && nat_lt value (2 ^ first_bits len)) && (len == 4 || (not change && not wrap))

abbrev pub first_checked : ℕ → ℕ → Bool → Bool → Option ItmPacket
first_checked len value change wrap =
    if is_first len value change wrap then Some (itm.GlobalFirst len value change wrap) else None

abbrev pub counters_within : ℕ → Option DwtItem
counters_within bits = if nat_le bits 63 then Some (dwt.Counters bits) else None

-- a hardware packet is named by its number only where the table has no row for it
abbrev pub unnamed : DwtItem → Option DwtItem
unnamed (dwt.Other disc size value) = Some (dwt.Other disc size value)
unnamed item = None

-- a timestamp alone is none if it is not there
abbrev pub null_stamp : Stamp → Option StpItem
null_stamp NoStamp = None
null_stamp stamp = Some (stp.NullStamp stamp)

-- the word of a width and a value, a comparator, a master and a channel
abbrev pub value_fields : Size → List Field
value_fields size = Word (size_word size) ∷ (Says (Digits (2 * byte_count size)) ∷ [])

abbrev pub compared : List Field → List Field
compared fields = Says (Upto 3) ∷ fields

abbrev pub placed : List Field → List Field
placed fields = Says (Known (2 ^ 16 - 1)) ∷ (Says (Known (2 ^ 16 - 1)) ∷ fields)

abbrev pub place : Option ℕ → Option ℕ → Place
place master channel = record { master = master; channel = channel }

abbrev pub itm_row : ItmShape → Row ItmPacket
itm_row Sync = row (codes "sync") [] (λ v. Some itm.Sync)
itm_row Overflow = row (codes "overflow") [] (λ v. Some itm.Overflow)
itm_row (Software size) =
    row (codes "port") (Says (Upto 31) ∷ value_fields size) (λ v. Some (itm.Software v.0 size v.1.0))
itm_row (Local lateness) =
    row (codes "local") (Word (lateness_text lateness) ∷ (Says (Upto (2 ^ 28 - 1)) ∷ []))
    (λ v. Some (itm.Local lateness v.0))
itm_row GlobalFirst =
    row (codes "global1") (Says (Upto 4) ∷ (Says (Upto (2 ^ 26 - 1)) ∷ (Says (Upto 1) ∷ (Says (Upto 1) ∷ []))))
    (λ v. first_checked v.0 v.1.0 (v.1.1.0 == 1) (v.1.1.1.0 == 1))
itm_row (GlobalSecond wide) =
    row (codes "global2")
    (Word (if wide then codes "64" else codes "48") ∷ (Says (Upto (2 ^ second_bits wide - 1)) ∷ []))
    (λ v. Some (itm.GlobalSecond wide v.0))
itm_row (Extension dwt) =
    row (codes "ext") (Word (if dwt then codes "dwt" else codes "itm") ∷ (Says (Digits 8) ∷ []))
    (λ v. Some (itm.Extension dwt v.0))

abbrev pub dwt_row : DwtShape → Row DwtItem
dwt_row Counters = row (codes "counters") (Says (Digits 2) ∷ []) (λ v. counters_within v.0)
dwt_row (Exception change) =
    row (codes "exception") (Says (Upto 511) ∷ (Word (change_word change) ∷ [])) (λ v. Some (dwt.Exception v.0 change))
dwt_row Sample = row (codes "pc") (Says (Digits 8) ∷ []) (λ v. Some (dwt.Sample v.0))
dwt_row Asleep = row (codes "asleep") [] (λ v. Some dwt.Asleep)
dwt_row MatchPc =
    row (codes "cmp") (compared (Word (codes "pc") ∷ (Says (Digits 8) ∷ []))) (λ v. Some (dwt.MatchPc v.0 v.1.0))
dwt_row MatchAddress =
    row (codes "cmp") (compared (Word (codes "addr") ∷ (Says (Digits 4) ∷ []))) (λ v. Some (dwt.MatchAddress v.0 v.1.0))
dwt_row (Read size) =
    row (codes "cmp") (compared (Word (codes "read") ∷ value_fields size)) (λ v. Some (dwt.Read v.0 size v.1.0))
dwt_row (Written size) =
    row (codes "cmp") (compared (Word (codes "write") ∷ value_fields size)) (λ v. Some (dwt.Written v.0 size v.1.0))
dwt_row (Other size) =
    row (codes "hw") (Says (Upto 31) ∷ value_fields size) (λ v. unnamed (name v.0 size v.1.0))

abbrev pub stp_row : StpShape → Row StpItem
stp_row Async = row (codes "async") [] (λ v. Some stp.Async)
stp_row Version = row (codes "version") (Says (Upto 15) ∷ []) (λ v. Some (stp.Version v.0))
stp_row MasterError =
    row (codes "merr") (placed (Says (Digits 2) ∷ [])) (λ v. Some (stp.MasterError (place v.0 v.1.0) v.1.1.0))
stp_row GlobalError = row (codes "gerr") (Says (Digits 2) ∷ []) (λ v. Some (stp.GlobalError v.0))
stp_row (Datum width marked) =
    row (codes "data") (placed (Word (width_text width)
    ∷ (Says (Digits (bits_of width / 4)) ∷ (Word (mark_text marked) ∷ (Says Time ∷ [])))))
    (λ v. Some (stp.Datum (place v.0 v.1.0) width v.1.1.0 marked v.1.1.1.0))
stp_row Flag = row (codes "flag") (placed (Says Time ∷ [])) (λ v. Some (stp.Flag (place v.0 v.1.0) v.1.1.0))
stp_row Trigger = row (codes "trig") (Says (Digits 2) ∷ (Says Time ∷ [])) (λ v. Some (stp.Trigger v.0 v.1.0))
stp_row Frequency =
    row (codes "freq") (Says (Upto (2 ^ 32 - 1)) ∷ (Says Time ∷ [])) (λ v. Some (stp.Frequency v.0 v.1.0))
stp_row NullStamp = row (codes "nullts") (Says Time ∷ []) (λ v. null_stamp v.0)

abbrev pub raw_row : Row (List ℕ)
raw_row = row (codes "raw") (Says Bytes ∷ []) (λ v. Some v.0)

abbrev pub fields_of : Shape → List Field
fields_of (Itm shape) = fields_in (itm_row shape)
fields_of (Dwt shape) = fields_in (dwt_row shape)
fields_of (Stp shape) = fields_in (stp_row shape)
fields_of Raw = fields_in raw_row
