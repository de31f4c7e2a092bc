-- Packets whose numbers are in the ranges that bytes can spell: each range is that of the packet's fields (ARMv7-M
-- Architecture Reference Manual, Arm DDI 0403E, appendix D4 'Debug ITM and DWT Packet Protocol', section D4.2 'Packet
-- descriptions').
use Rattle.std.specs.Prelude.{◌≡◌, ℕ, ◌*◌, ◌^◌, ◌<◌, ◌≤◌, Bool, false, ◌==◌, if◌then◌else◌}
use Rattle.itm_grammar.specs.declared.packet.ItmPacket.{ItmPacket}
use Rattle.itm_grammar.specs.declared.packet.ItmPacket.TheVariants.{Sync, Overflow, Software, Hardware, Local}
use Rattle.itm_grammar.specs.declared.packet.ItmPacket.TheVariants.{GlobalFirst, GlobalSecond, Extension}
use Rattle.itm_grammar.specs.Spelling.{byte_count}

-- how many bits of the time a first global timestamp of this many payload bytes has
abbrev pub first_bits : ℕ → ℕ
first_bits len = if len == 4 then 26 else 7 * len

-- and a second one
abbrev pub second_bits : Bool → ℕ
second_bits wide = if wide then 38 else 22

-- a first global timestamp of under four bytes has no room for clock change and wrap
abbrev pub IsProper : ItmPacket → Type 0
IsProper Sync = Unit {0}
IsProper Overflow = Unit {0}
IsProper (Software port size value) = (port < 32) × (value < 256 ^ byte_count size)
IsProper (Hardware disc size value) = (disc < 32) × (value < 256 ^ byte_count size)
IsProper (Local lateness delta) = delta < 2 ^ 28
IsProper (GlobalFirst len value change wrap) =
    (0 < len) × (len ≤ 4) × (value < 2 ^ first_bits len) × (len < 4 → (change ≡ false) × (wrap ≡ false))
IsProper (GlobalSecond wide value) = value < 2 ^ second_bits wide
IsProper (Extension dwt value) = value < 2 ^ 32
