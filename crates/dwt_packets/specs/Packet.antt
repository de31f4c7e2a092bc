-- The packet of an item, by the same table (ARMv7-M Architecture Reference Manual, Arm DDI 0403E, appendix D4 'Debug
-- ITM and DWT Packet Protocol', section D4.3 'DWT use of Hardware source packets').
use Rattle.std.specs.Prelude.{◌≡◌, ℕ, ◌+◌, ◌*◌, ◌^◌, ◌<◌}
use Rattle.itm_grammar.specs.Spelling.{byte_count}
use Rattle.itm_grammar.specs.declared.packet.Size.{Size}
use Rattle.itm_grammar.specs.declared.packet.Size.TheVariants.{One, Two, Four}
use Rattle.dwt_packets.specs.declared.item.Change.{Change}
use Rattle.dwt_packets.specs.declared.item.Change.TheVariants.{Enter, Exit, Return}
use Rattle.dwt_packets.specs.declared.item.DwtItem.{DwtItem}
use Rattle.dwt_packets.specs.declared.item.DwtItem.TheVariants.{Counters, Exception, Sample, Asleep, MatchPc}
use Rattle.dwt_packets.specs.declared.item.DwtItem.TheVariants.{MatchAddress, Read, Written, Other}
use Rattle.dwt_packets.specs.Table.{name, NoRowFits}

-- a hardware packet's discriminator and value fit their bits
abbrev pub IsPacket : ℕ → Size → ℕ → Type 0
IsPacket disc size value = (disc < 32) × (value < 256 ^ byte_count size)

-- the item is the meaning of some packet
abbrev pub IsProperItem : DwtItem → Type 0
IsProperItem item = (disc : ℕ) × (size : Size) × (value : ℕ) × IsPacket disc size value × (name disc size value ≡ item)

-- bits 13 and 12 of an exception packet
abbrev pub change_bits : Change → ℕ
change_bits Enter = 1
change_bits Exit = 2
change_bits Return = 3

-- the discriminator, size and value of an item's packet
abbrev pub packet : DwtItem → ℕ × Size × ℕ
packet (Counters counters) = (0, One, counters)
packet (Exception number change) = (1, Two, 2 ^ 12 * change_bits change + number)
packet (Sample pc) = (2, Four, pc)
packet Asleep = (2, One, 0)
packet (MatchPc comparator pc) = (8 + 2 * comparator, Four, pc)
packet (MatchAddress comparator low) = (9 + 2 * comparator, Two, low)
packet (Read comparator size value) = (16 + 2 * comparator, size, value)
packet (Written comparator size value) = (17 + 2 * comparator, size, value)
packet (Other disc size value) = (disc, size, value)

-- the numbers of an item in their ranges, and another item's packet has no row
abbrev pub IsInRange : DwtItem → Type 0
IsInRange (Counters counters) = counters < 2 ^ 6
IsInRange (Exception number change) = number < 2 ^ 9
IsInRange (Sample pc) = pc < 2 ^ 32
IsInRange Asleep = Unit {0}
IsInRange (MatchPc comparator pc) = (comparator < 4) × (pc < 2 ^ 32)
IsInRange (MatchAddress comparator low) = (comparator < 4) × (low < 2 ^ 16)
IsInRange (Read comparator size value) = (comparator < 4) × (value < 256 ^ byte_count size)
IsInRange (Written comparator size value) = (comparator < 4) × (value < 256 ^ byte_count size)
IsInRange (Other disc size value) = IsPacket disc size value × NoRowFits disc size value
