-- One more nibble of an unfinished packet (MIPI System Trace Protocol, version 2, in this project's profile): the
-- grammar's rule, which keeps a state.
use Rattle.std.specs.Prelude.{◌≡◌, ℕ, ◌+◌, ◌*◌, ◌^◌, length, Bool, true, ◌==◌, ◌&&◌, nat_lt, nat_le, if◌then◌else◌}
use Rattle.stp_grammar.specs.Names.{Unsupported, StampSize, BadAsync, Next, Go, End, Fail, nibble_count}
use Rattle.stp_grammar.specs.declared.packet.Order.{Order}
use Rattle.stp_grammar.specs.declared.packet.Order.TheVariants.{Msn, Lsn}
use Rattle.stp_grammar.specs.declared.packet.Row.{Row}
use Rattle.stp_grammar.specs.declared.packet.StpPacket.{StpPacket}
use Rattle.stp_grammar.specs.declared.packet.StpPacket.TheVariants.{Async, Plain, Stamped}
use Rattle.stp_grammar.specs.declared.partial.Partial.{Partial}
use Rattle.stp_grammar.specs.declared.partial.Partial.TheVariants.{Start, Second, Third, Run, Payload, Size, Word}
use Rattle.stp_grammar.specs.Opcodes.{line_of, row_at, Opening, Whole, More, Refused}
use Rattle.stp_grammar.specs.Proper.{IsProper}

-- what the first nibble begins: the opcode of row 0 to 14, or F, with which opcodes and ASYNC go on
abbrev pub first_opening : ℕ → Opening
first_opening a = if nat_lt a 15 then Whole (row_at a) else (if a == 15 then More else Refused)

-- and the nibble after F: the opcode of row 15 to 28, or 0, with which opcodes go on
abbrev pub second_opening : ℕ → Opening
second_opening b = if b == 0 then More else (if nat_lt b 15 then Whole (row_at (14 + b)) else Refused)

-- and the nibble after F 0: the opcode of row 29 to 34
abbrev pub third_opening : ℕ → Opening
third_opening c =
    if nat_lt c 2 then Whole (row_at (29 + c))
    else (if nat_lt c 6 then Refused
    else (if nat_lt c 10 then Whole (row_at (25 + c)) else Refused))

-- the number that this many nibbles make with one more
abbrev pub number_with : Order → ℕ → ℕ → ℕ → ℕ
number_with Msn count value b = 16 * value + b
number_with Lsn count value b = value + 16 ^ count * b

-- after the last payload nibble: a packet without a timestamp is whole
abbrev pub after_payload : Row → ℕ → Next Partial StpPacket
after_payload row payload = if (line_of row).stamped then Go (Size row payload) else End (Plain row payload)

-- after the opcode of this row
abbrev pub begin : Row → Next Partial StpPacket
begin row = if (line_of row).payload == 0 then after_payload row 0 else Go (Payload row 0 0)

-- a nibble of an opcode, with the state of one that goes on
abbrev pub opened : Opening → Partial → Next Partial StpPacket
opened (Whole row) state = begin row
opened More state = Go state
opened Refused state = Fail Unsupported

-- a payload nibble after this many, which make this number with it
abbrev pub payload_with : Row → ℕ → ℕ → Next Partial StpPacket
payload_with row count value =
    if count + 1 == (line_of row).payload then after_payload row value else Go (Payload row (count + 1) value)

-- a timestamp's size nibble
abbrev pub size_with : Row → ℕ → ℕ → Next Partial StpPacket
size_with row payload size =
    if nat_lt size 15 then (if size == 0 then End (Stamped row payload 0 0) else Go (Word row payload size 0 0))
    else Fail StampSize

-- a nibble of a timestamp's word after this many, which make this number with it
abbrev pub word_with : Row → ℕ → ℕ → ℕ → ℕ → Next Partial StpPacket
word_with row payload size count word =
    if count + 1 == nibble_count size then End (Stamped row payload size word)
    else Go (Word row payload size (count + 1) word)

-- the rule: a nibble of an opcode, of ASYNC after this many nibbles F, of a payload, or of a timestamp
abbrev pub rule : Order → Partial → ℕ → Next Partial StpPacket
rule order Start b = opened (first_opening b) Second
rule order Second b = if b == 15 then Go (Run 2) else opened (second_opening b) Third
rule order Third b = opened (third_opening b) Third
rule order (Run count) b =
    if b == 15 then Go (Run (count + 1))
    else (if b == 0 && nat_le 21 count then End Async else Fail BadAsync)
rule order (Payload row count value) b = payload_with row count (number_with order count value b)
rule order (Size row payload) b = size_with row payload b
rule order (Word row payload size count word) b = word_with row payload size count (number_with order count word b)

-- how many nibbles of the unfinished packet there are
abbrev pub count_of : Partial → ℕ
count_of Start = 0
count_of Second = 1
count_of Third = 2
count_of (Run count) = count
count_of (Payload row count value) = length (line_of row).opcode + count
count_of (Size row payload) = length (line_of row).opcode + (line_of row).payload
count_of (Word row payload size count word) = length (line_of row).opcode + (line_of row).payload + 1 + count

-- and how many after a step: none after a whole packet or a fault
abbrev pub held_after : Next Partial StpPacket → ℕ
held_after (Go partial) = count_of partial
held_after (End packet) = 0
held_after (Fail e) = 0

-- what nibbles leave: of a payload or a word fewer than it has, which make a number that fits them
abbrev pub is_sound : Partial → Bool
is_sound Start = true
is_sound Second = true
is_sound Third = true
is_sound (Run count) = nat_le 2 count
is_sound (Payload row count value) = nat_lt count (line_of row).payload && nat_lt value (16 ^ count)
is_sound (Size row payload) = nat_lt payload (16 ^ (line_of row).payload)
is_sound (Word row payload size count word) =
    nat_lt payload (16 ^ (line_of row).payload)
    && (nat_lt size 15 && (nat_lt count (nibble_count size) && nat_lt word (16 ^ count)))

-- where a packet goes on, it does so in such a state, and where it ends, its numbers are in their ranges
abbrev pub IsSoundNext : Next Partial StpPacket → Type 0
IsSoundNext (Go partial) = is_sound partial ≡ true
IsSoundNext (End packet) = IsProper packet
IsSoundNext (Fail e) = Unit {0}
