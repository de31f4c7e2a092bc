-- Which lists of bytes spell a packet (ARMv7-M Architecture Reference Manual, Arm DDI 0403E, appendix D4 'Debug ITM and
-- DWT Packet Protocol', section D4.2 'Packet descriptions'). Titles in quotes are those of its parts.
use Rattle.std.specs.Prelude.{◌≡◌, ℕ, ◌+◌, ◌*◌, ◌^◌, ◌%◌, ◌<◌, ◌≤◌, List, [], ◌∷◌, ◌++◌, length, replicate, Bool, true}
use Rattle.std.specs.Prelude.{false, ◌==◌, if◌then◌else◌, ◌⊎◌}
use Rattle.itm_grammar.specs.Names.{Reason, ReservedHeader, BadItmSync, LongStamp, ShortStamp}
use Rattle.itm_grammar.specs.declared.packet.Size.{Size}
use Rattle.itm_grammar.specs.declared.packet.Size.TheVariants.{One, Two, Four}
use Rattle.itm_grammar.specs.declared.packet.Lateness.{Lateness}
use Rattle.itm_grammar.specs.declared.packet.Lateness.TheVariants.{Exact, StampLate, PacketLate, BothLate}
use Rattle.itm_grammar.specs.declared.packet.ItmPacket.{ItmPacket}
use Rattle.itm_grammar.specs.declared.packet.ItmPacket.TheVariants.{Sync, Overflow, Software, Hardware, Local}
use Rattle.itm_grammar.specs.declared.packet.ItmPacket.TheVariants.{GlobalFirst, GlobalSecond, Extension}
use Rattle.itm_grammar.specs.declared.header.Class.{Class}
use Rattle.itm_grammar.specs.declared.header.Class.TheVariants.{Zero, LocalLong, GlobalFirst as First}
use Rattle.itm_grammar.specs.declared.header.Class.TheVariants.{GlobalSecond as Second}
use Rattle.itm_grammar.specs.Header.{class_of}

-- how many payload bytes a size has
abbrev pub byte_count : Size → ℕ
byte_count One = 1
byte_count Two = 2
byte_count Four = 4

-- SS, bits 1 and 0 of a header with this size
abbrev pub size_bits : Size → ℕ
size_bits One = 1
size_bits Two = 2
size_bits Four = 3

-- TC, bits 5 and 4 of the header of a long local timestamp
abbrev pub late_bits : Lateness → ℕ
late_bits Exact = 0
late_bits StampLate = 1
late_bits PacketLate = 2
late_bits BothLate = 3

-- a bit, as a number
abbrev pub bit_of : Bool → ℕ
bit_of true = 1
bit_of false = 0

-- the number that bytes stand for, the least byte first
abbrev pub number : List ℕ → ℕ
number [] = 0
number (b ∷ bytes) = b + 256 * number bytes

-- the number that bits 6 to 0 of bytes stand for, the lowest group first
abbrev pub groups : List ℕ → ℕ
groups [] = 0
groups (b ∷ bytes) = b % 128 + 128 * groups bytes

-- at least one byte, and bit 7 of each, the continuation bit C, says whether another follows
abbrev pub IsContinued : List ℕ → Type 0
IsContinued [] = ⊥
IsContinued (b ∷ []) = b < 128
IsContinued (b ∷ (c ∷ bytes)) = (128 ≤ b) × IsContinued (c ∷ bytes)

-- a source packet: the header with a number in bits 7 to 3, bit 2 and the size in bits 1 and 0, then the value, least
-- byte first
abbrev pub SpellsSource : ℕ → ℕ → Size → ℕ → List ℕ → Type 0
SpellsSource bit_two number_of_source size value r =
    (payload : List ℕ) × (number_of_source < 32) × (r ≡ (8 * number_of_source + 4 * bit_two + size_bits size) ∷ payload)
    × (length payload ≡ byte_count size) × (value ≡ number payload)

-- the payload of an extension packet: at most three bytes as above, or three that say that another follows and a
-- fourth, which has no such bit
abbrev pub IsExtended : List ℕ → Type 0
IsExtended [] = Unit {0}
IsExtended (a ∷ []) = a < 128
IsExtended (a ∷ (b ∷ [])) = (128 ≤ a) × (b < 128)
IsExtended (a ∷ (b ∷ (c ∷ []))) = (128 ≤ a) × (128 ≤ b) × (c < 128)
IsExtended (a ∷ (b ∷ (c ∷ (d ∷ bytes)))) = (128 ≤ a) × (128 ≤ b) × (128 ≤ c) × (bytes ≡ [])

-- and its number: seven bits of each, but all of a fourth
abbrev pub extended : List ℕ → ℕ
extended [] = 0
extended (a ∷ []) = a % 128
extended (a ∷ (b ∷ [])) = a % 128 + 128 * (b % 128)
extended (a ∷ (b ∷ (c ∷ []))) = a % 128 + 128 * (b % 128 + 128 * (c % 128))
extended (a ∷ (b ∷ (c ∷ (d ∷ bytes)))) = a % 128 + 128 * (b % 128 + 128 * (c % 128 + 128 * d))

-- bit 7 of an extension packet's header: a payload byte follows
abbrev pub more_bit : List ℕ → ℕ
more_bit [] = 0
more_bit (b ∷ bytes) = 1

-- In hexadecimal, with the manual's names:
-- Sync, 'Synchronization packet': at least five bytes 00, then 80.
-- Overflow, 'Overflow packet': 70.
-- Software, 'Instrumentation packet': a source packet with bit 2 of the header clear.
-- Hardware, 'Hardware source packet': one with that bit set.
-- Local, 'Local timestamp packets': LTS2, 0TTT0000 with TTT 1 to 6, which is exact; or LTS1, 11LL0000 (C0, D0, E0, F0)
-- and at most four bytes with the time, seven bits a byte.
-- GlobalFirst, 'Global timestamp packets', GTS1: 94 and at most four bytes, seven bits a byte: 26 bits of the time,
-- then clock change (ClkCh), then Wrap.
-- GlobalSecond, GTS2: B4 and four bytes with 22 bits of the time, or six with 38; what is above these in the last byte
-- is ignored. That it has four bytes or six is this project's profile.
-- Extension, 'Extension packet': CDDD1S00, with value bits 2 to 0 in DDD, S (SH) set for the DWT and C set where bytes
-- follow, at most four, with the bits above these. That a fourth byte has eight bits is this project's profile.
abbrev pub Spells : ItmPacket → List ℕ → Type 0
Spells Sync r = (zeros : ℕ) × (5 ≤ zeros) × (r ≡ replicate zeros 0x00 ++ 0x80 ∷ [])
Spells Overflow r = r ≡ 0x70 ∷ []
Spells (Software port size value) r = SpellsSource 0 port size value r
Spells (Hardware disc size value) r = SpellsSource 1 disc size value r
Spells (Local lateness delta) r =
    ((lateness ≡ Exact) × (0 < delta) × (delta < 7) × (r ≡ (16 * delta) ∷ []))
    ⊎ ((payload : List ℕ) × (r ≡ (0xC0 + 16 * late_bits lateness) ∷ payload) × IsContinued payload
    × (length payload ≤ 4) × (delta ≡ groups payload))
Spells (GlobalFirst len value change wrap) r =
    (payload : List ℕ) × (r ≡ 0x94 ∷ payload) × IsContinued payload × (length payload ≡ len) × (len ≤ 4)
    × (value < 2 ^ 26) × (groups payload ≡ value + 2 ^ 26 * bit_of change + 2 ^ 27 * bit_of wrap)
Spells (GlobalSecond wide value) r =
    (payload : List ℕ) × (r ≡ 0xB4 ∷ payload) × IsContinued payload
    × (length payload ≡ (if wide then 6 else 4)) × (value ≡ groups payload % 2 ^ (if wide then 38 else 22))
Spells (Extension dwt value) r =
    (low : ℕ) × (payload : List ℕ) × (low < 8)
    × (r ≡ (128 * more_bit payload + 16 * low + 4 * bit_of dwt + 8) ∷ payload)
    × IsExtended payload × (value ≡ low + 8 * extended payload)

-- Why no packet goes on so, by the header's class and how many bytes come after the header, up to the one that breaks
-- it. What faults there are is this project's profile.
abbrev pub reason_of : Class → ℕ → Reason
reason_of Zero count = BadItmSync
reason_of (LocalLong lateness) count = LongStamp
reason_of First count = LongStamp
reason_of Second count = if count == 6 then LongStamp else ShortStamp
reason_of class count = ReservedHeader

-- why no packet goes on so, where these are the units up to the one that breaks it
abbrev pub why : List ℕ → Reason
why [] = ReservedHeader
why (header ∷ bytes) = reason_of (class_of header) (length bytes)
