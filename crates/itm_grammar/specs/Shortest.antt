-- The shortest spelling of a packet, with ignored bits clear (ARMv7-M Architecture Reference Manual, Arm DDI 0403E,
-- appendix D4 'Debug ITM and DWT Packet Protocol', section D4.2 'Packet descriptions'). That the encoder takes the
-- shortest is this project's profile.
use Rattle.std.specs.Prelude.{◌≡◌, ℕ, zero, suc, ◌+◌, ◌*◌, ◌^◌, ◌/◌, ◌%◌, ◌<◌, ◌≤◌, List, [], ◌∷◌, length, All, Bool}
use Rattle.std.specs.Prelude.{false, ◌&&◌, nat_lt, if◌then◌else◌}
use Rattle.itm_grammar.specs.declared.packet.Lateness.{Lateness}
use Rattle.itm_grammar.specs.declared.packet.Lateness.TheVariants.{Exact}
use Rattle.itm_grammar.specs.declared.packet.ItmPacket.{ItmPacket}
use Rattle.itm_grammar.specs.declared.packet.ItmPacket.TheVariants.{Sync, Overflow, Software, Hardware, Local}
use Rattle.itm_grammar.specs.declared.packet.ItmPacket.TheVariants.{GlobalFirst, GlobalSecond, Extension}
use Rattle.itm_grammar.specs.Spelling.{Spells, byte_count, size_bits, late_bits, bit_of, groups, more_bit}

-- this many bytes of a number, the least first
abbrev pub bytes_of : ℕ → ℕ → List ℕ
bytes_of zero value = []
bytes_of (suc n) value = (value % 256) ∷ bytes_of n (value / 256)

-- this many bytes with seven bits each of a number, the lowest first, where bit 7 says that another follows
abbrev pub groups_of : ℕ → ℕ → List ℕ
groups_of zero value = []
groups_of (suc zero) value = (value % 128) ∷ []
groups_of (suc (suc n)) value = (128 + value % 128) ∷ groups_of (suc n) (value / 128)

-- how many such bytes a number needs
abbrev pub group_count : ℕ → ℕ
group_count value =
    if nat_lt value (2 ^ 7) then 1 else (if nat_lt value (2 ^ 14) then 2 else (if nat_lt value (2 ^ 21) then 3 else 4))

-- a local timestamp that has a short form
abbrev pub is_short : Lateness → ℕ → Bool
is_short Exact delta = nat_lt 0 delta && nat_lt delta 7
is_short lateness delta = false

-- the payload of an extension packet for the bits above the header's three: a fourth byte has eight
abbrev pub extension_bytes : ℕ → List ℕ
extension_bytes high =
    if nat_lt high (2 ^ 21) then groups_of (group_count high) high
    else (128 + high % 128) ∷ ((128 + high / 128 % 128)
    ∷ ((128 + high / 128 / 128 % 128) ∷ ((high / 128 / 128 / 128) ∷ [])))

-- and where they are all 0 there is none
abbrev pub extension_payload : ℕ → List ℕ
extension_payload value = if nat_lt value 8 then [] else extension_bytes (value / 8)

abbrev pub short : ItmPacket → List ℕ
short Sync = 0x00 ∷ (0x00 ∷ (0x00 ∷ (0x00 ∷ (0x00 ∷ (0x80 ∷ [])))))
short Overflow = 0x70 ∷ []
short (Software port size value) = (8 * port + 4 * 0 + size_bits size) ∷ bytes_of (byte_count size) value
short (Hardware disc size value) = (8 * disc + 4 * 1 + size_bits size) ∷ bytes_of (byte_count size) value
short (Local lateness delta) =
    if is_short lateness delta then (16 * delta) ∷ []
    else (0xC0 + 16 * late_bits lateness) ∷ groups_of (group_count delta) delta
short (GlobalFirst len value change wrap) = 0x94 ∷ groups_of len (value + 2 ^ 26 * bit_of change + 2 ^ 27 * bit_of wrap)
short (GlobalSecond wide value) = 0xB4 ∷ groups_of (if wide then 6 else 4) value
short (Extension dwt value) =
    (128 * more_bit (extension_payload value) + 16 * (value % 8) + 4 * bit_of dwt + 8) ∷ extension_payload value

-- how many bytes that is
abbrev pub shortest_len : ItmPacket → ℕ
shortest_len Sync = 6
shortest_len Overflow = 1
shortest_len (Software port size value) = 1 + byte_count size
shortest_len (Hardware disc size value) = 1 + byte_count size
shortest_len (Local lateness delta) = if is_short lateness delta then 1 else 1 + group_count delta
shortest_len (GlobalFirst len value change wrap) = 1 + len
shortest_len (GlobalSecond wide value) = if wide then 7 else 5
shortest_len (Extension dwt value) = if nat_lt value 8 then 1 else 1 + group_count (value / 8)

-- The ignored bits are 0: a second global timestamp alone has such, above its number in the last byte, so that all
-- groups of the payload make up just the number.
abbrev pub IsClear : ItmPacket → List ℕ → Type 0
IsClear (GlobalSecond wide value) r = (payload : List ℕ) × (r ≡ 0xB4 ∷ payload) × (groups payload ≡ value)
IsClear packet r = Unit {0}

-- It spells the packet in bytes whose ignored bits are 0, has this length, and no spelling is shorter.
pub record HasShortest (packet : ItmPacket) : Type 0 where
  pub spells : Spells packet (short packet)
  pub bytes : All (λ b. b < 256) (short packet)
  pub clear : IsClear packet (short packet)
  pub len : length (short packet) ≡ shortest_len packet
  pub least : (r : List ℕ) → Spells packet r → length (short packet) ≤ length r
