-- The table of headers, with the manual's names (ARMv7-M Architecture Reference Manual, Arm DDI 0403E, appendix D4
-- 'Debug ITM and DWT Packet Protocol', section D4.2 'Packet descriptions').
use Rattle.std.specs.Prelude.{ℕ, ◌/◌, ◌%◌, Bool, true, ◌==◌, ◌&&◌, nat_lt, nat_le, if◌then◌else◌}
use Rattle.itm_grammar.specs.declared.packet.Size.{Size}
use Rattle.itm_grammar.specs.declared.packet.Size.TheVariants.{One, Two, Four}
use Rattle.itm_grammar.specs.declared.packet.Lateness.{Lateness}
use Rattle.itm_grammar.specs.declared.packet.Lateness.TheVariants.{Exact, StampLate, PacketLate, BothLate}
use Rattle.itm_grammar.specs.declared.header.Class.{Class}
use Rattle.itm_grammar.specs.declared.header.Class.TheVariants.{Zero, Overflow, Source, LocalShort, LocalLong}
use Rattle.itm_grammar.specs.declared.header.Class.TheVariants.{GlobalFirst, GlobalSecond, Extension, Reserved}

-- SS of a source packet, bits 1 and 0, which are not 00: 01, 10, 11
abbrev pub size_of : ℕ → Size
size_of low = if low == 1 then One else (if low == 2 then Two else Four)

-- TC of a local timestamp packet, bits 5 and 4: 00, 01, 10, 11
abbrev pub lateness_of : ℕ → Lateness
lateness_of bits =
    if bits == 0 then Exact else (if bits == 1 then StampLate else (if bits == 2 then PacketLate else BothLate))

-- With low nibble 0, by the high nibble: 00 Synchronization packet; 10 to 60 Local timestamp packet, format 2 (LTS2);
-- 70 Overflow packet; 80 to B0 reserved; C0 to F0 Local timestamp packet, format 1 (LTS1)
abbrev pub class_by_high : ℕ → Class
class_by_high high =
    if high == 0 then Zero
    else (if nat_lt high 7 then LocalShort high
    else (if high == 7 then Overflow
    else (if nat_lt high 12 then Reserved else LocalLong (lateness_of (high % 4)))))

-- with low nibble 4, by the high nibble: 94 Global timestamp packet, format 1 (GTS1); B4 format 2 (GTS2); else reserved
abbrev pub class_of_stamp : ℕ → Class
class_of_stamp high = if high == 9 then GlobalFirst else (if high == 11 then GlobalSecond else Reserved)

-- By bits 1 and 0, and then by the low nibble: a source packet, Instrumentation or Hardware source by bit 2, with the
-- stimulus port or the discriminator ID in bits 7 to 3; the two above; else 8 or C, an Extension packet. What is no
-- byte is no header (this project's profile).
abbrev pub class_of : ℕ → Class
class_of header =
    if nat_lt header 256 then
    (if nat_lt 0 (header % 4) then Source ((header / 4) % 2 == 1) (header / 8) (size_of (header % 4))
    else (if header % 16 == 0 then class_by_high (header / 16)
    else (if header % 16 == 4 then class_of_stamp (header / 16)
    else Extension (nat_le 128 header) (header % 16 == 12) ((header / 16) % 8))))
    else Reserved

-- the numbers of a header's class fit their bits, and a short timestamp's is one of six
abbrev pub is_proper_class : Class → Bool
is_proper_class (Source hardware number size) = nat_lt number 32
is_proper_class (LocalShort delta) = nat_lt 0 delta && nat_lt delta 7
is_proper_class (Extension more dwt low) = nat_lt low 8
is_proper_class class = true
