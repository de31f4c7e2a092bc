-- One more byte of an unfinished packet: the rule of the grammar in Spelling, which keeps a state. The headers and
-- fields are those of ARMv7-M Architecture Reference Manual, Arm DDI 0403E, appendix D4 'Debug ITM and DWT Packet
-- Protocol', section D4.2 'Packet descriptions'; which bytes are faults is this project's profile.
use Rattle.std.specs.Prelude.{◌≡◌, ◌<◌, ℕ, ◌+◌, ◌*◌, ◌^◌, ◌/◌, ◌%◌, Bool, true, false, ◌==◌, ◌&&◌, nat_lt, nat_le}
use Rattle.std.specs.Prelude.{if◌then◌else◌}
use Rattle.itm_grammar.specs.Names.{ReservedHeader, BadItmSync, LongStamp, ShortStamp, Next, Go, End, Fail}
use Rattle.itm_grammar.specs.declared.packet.Size.{Size}
use Rattle.itm_grammar.specs.declared.packet.Lateness.TheVariants.{Exact}
use Rattle.itm_grammar.specs.declared.packet.ItmPacket.{ItmPacket}
use Rattle.itm_grammar.specs.declared.packet.ItmPacket.TheVariants.{Sync, Overflow, Software, Hardware, Local}
use Rattle.itm_grammar.specs.declared.packet.ItmPacket.TheVariants.{GlobalFirst, GlobalSecond, Extension}
use Rattle.itm_grammar.specs.declared.header.Class.{Class}
use Rattle.itm_grammar.specs.declared.header.Class.TheVariants.{Zero, Overflow as Overflowed, Source, LocalShort}
use Rattle.itm_grammar.specs.declared.header.Class.TheVariants.{LocalLong, GlobalFirst as First, GlobalSecond as Second}
use Rattle.itm_grammar.specs.declared.header.Class.TheVariants.{Extension as Extended, Reserved}
use Rattle.itm_grammar.specs.declared.partial.Partial.{Partial}
use Rattle.itm_grammar.specs.declared.partial.Partial.TheVariants.{Header, Zeros, Payload}
use Rattle.itm_grammar.specs.Header.{class_of, is_proper_class}
use Rattle.itm_grammar.specs.Spelling.{byte_count}
use Rattle.itm_grammar.specs.Proper.{IsProper}

-- a header of this class
abbrev pub begin : Class → Next Partial ItmPacket
begin Zero = Go (Zeros 1)
begin Overflowed = End Overflow
begin (Source hardware number size) = Go (Payload (Source hardware number size) 0 0)
begin (LocalShort delta) = End (Local Exact delta)
begin (LocalLong lateness) = Go (Payload (LocalLong lateness) 0 0)
begin First = Go (Payload First 0 0)
begin Second = Go (Payload Second 0 0)
begin (Extended false dwt low) = End (Extension dwt low)
begin (Extended true dwt low) = Go (Payload (Extended true dwt low) 0 0)
begin Reserved = Fail ReservedHeader

-- how many payload bytes a packet of this class may have
abbrev pub most_bytes : Class → ℕ
most_bytes (Source hardware number size) = byte_count size
most_bytes (LocalLong lateness) = 4
most_bytes First = 4
most_bytes Second = 6
most_bytes (Extended true dwt low) = 4
most_bytes class = 0

-- how many values a payload byte has
abbrev pub base_of : Class → ℕ
base_of (Source hardware number size) = 256
base_of class = 128

-- what a payload byte after this many says by itself: seven bits, but in a source packet and at the fourth byte of an
-- extension all of it
abbrev pub digit : Class → ℕ → ℕ → ℕ
digit (Source hardware number size) count b = b
digit (Extended more dwt low) count b = if count == 3 then b else b % 128
digit class count b = b % 128

-- after this payload byte, which comes after this many, there is another: by the size, or by bit 7
abbrev pub another_follows : Class → ℕ → ℕ → Bool
another_follows (Source hardware number size) count b = nat_lt (count + 1) (byte_count size)
another_follows class count b = nat_le 128 b && nat_lt (count + 1) (most_bytes class)

-- a source packet, of hardware or of software
abbrev pub source : Bool → ℕ → Size → ℕ → ItmPacket
source true number size value = Hardware number size value
source false number size value = Software number size value

-- a second global timestamp of this many bytes, whose groups are this number
abbrev pub second_stamp : ℕ → ℕ → Next Partial ItmPacket
second_stamp count value =
    if count == 4 then End (GlobalSecond false (value % 2 ^ 22))
    else (if count == 6 then End (GlobalSecond true (value % 2 ^ 38)) else Fail ShortStamp)

-- the last payload byte, with which they are this many, and stand for this number
abbrev pub last : Class → ℕ → ℕ → ℕ → Next Partial ItmPacket
last (Source hardware number size) count value b = End (source hardware number size value)
last (LocalLong lateness) count value b = if nat_lt b 128 then End (Local lateness value) else Fail LongStamp
last First count value b =
    if nat_lt b 128
    then End (GlobalFirst count (value % 2 ^ 26) ((value / 2 ^ 26) % 2 == 1) ((value / 2 ^ 27) % 2 == 1))
    else Fail LongStamp
last Second count value b = if nat_lt b 128 then second_stamp count value else Fail LongStamp
last (Extended more dwt low) count value b = End (Extension dwt (low + 8 * value))
last class count value b = Fail ReservedHeader

-- a payload byte after this many, where with this byte they stand for this number
abbrev pub payload_with : Class → ℕ → ℕ → ℕ → Next Partial ItmPacket
payload_with class count value b =
    if another_follows class count b then Go (Payload class (count + 1) value) else last class (count + 1) value b

-- the rule: a header, a byte after this many bytes 00 of a synchronisation, or a payload byte
abbrev pub rule : Partial → ℕ → Next Partial ItmPacket
rule Header b = begin (class_of b)
rule (Zeros count) b =
    if b == 0x00 then Go (Zeros (count + 1))
    else (if b == 0x80 && nat_le 5 count then End Sync else Fail BadItmSync)
rule (Payload class count value) b = payload_with class count (value + digit class count b * base_of class ^ count) b

-- how many bytes of the unfinished packet there are
abbrev pub count_of : Partial → ℕ
count_of Header = 0
count_of (Zeros count) = count
count_of (Payload class count value) = count + 1

-- and how many after a step: none after a whole packet or a fault
abbrev pub held_after : Next Partial ItmPacket → ℕ
held_after (Go partial) = count_of partial
held_after (End packet) = 0
held_after (Fail e) = 0

-- what bytes leave: fewer payload bytes than the class may have, which stand for a number that fits them
abbrev pub is_sound_payload : Class → ℕ → ℕ → Bool
is_sound_payload class count value = nat_lt count (most_bytes class) && nat_lt value (base_of class ^ count)

-- and with a class whose numbers fit their bits; of bytes 00, at least one
abbrev pub is_sound : Partial → Bool
is_sound Header = true
is_sound (Zeros count) = nat_lt 0 count
is_sound (Payload class count value) = is_proper_class class && is_sound_payload class count value

-- where a packet goes on, it does so in such a state
abbrev pub IsSoundNext : Next Partial ItmPacket → Type 0
IsSoundNext (Go partial) = is_sound partial ≡ true
IsSoundNext (End packet) = Unit {0}
IsSoundNext (Fail e) = Unit {0}

-- where it ends, its numbers are in their ranges
abbrev pub StopsProperly : Next Partial ItmPacket → Type 0
StopsProperly (Go partial) = Unit {0}
StopsProperly (End packet) = IsProper packet
StopsProperly (Fail e) = Unit {0}

-- the numbers of a whole payload of this class with its header's fit the packet's
abbrev pub FitsLast : Class → ℕ → Type 0
FitsLast (Source hardware number size) value = value < 2 ^ 32
FitsLast (LocalLong lateness) value = value < 2 ^ 28
FitsLast (Extended more dwt low) value = (low < 8) × (value < 2 ^ 29)
FitsLast class value = Unit {0}
