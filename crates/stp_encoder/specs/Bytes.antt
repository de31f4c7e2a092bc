-- The bytes for a list of items with flushes: the shortest nibbles of their packets, two a byte, the low one first
-- (MIPI System Trace Protocol, version 2, in this project's profile).
use Rattle.std.specs.Prelude.{ℕ, ◌+◌, ◌*◌, ◌%◌, List, [], ◌∷◌, ◌++◌, length, flat_map, ◌==◌, if◌then◌else◌, Option}
use Rattle.std.specs.Prelude.{None, Some, option_to_list}
use Rattle.stp_encoder.specs.Names.{nibble_count, Order, StpPacket, Plain, Stamped, StpItem, line_of, short}
use Rattle.stp_grammar.specs.declared.packet.StpPacket.TheVariants.{Async}
use Rattle.stp_encoder.specs.Puts.{Put, Of, Flush, items_in}
use Rattle.stp_encoder.specs.Packets.{packets_with, packets_for}

-- the whole bytes of nibbles
abbrev pub joined : List ℕ → List ℕ
joined [] = []
joined (low ∷ []) = []
joined (low ∷ (high ∷ nibbles)) = (low + 16 * high) ∷ joined nibbles

-- the last nibble, where they are an odd number
abbrev pub odd_nibble : List ℕ → Option ℕ
odd_nibble [] = None
odd_nibble (low ∷ []) = Some low
odd_nibble (low ∷ (high ∷ nibbles)) = odd_nibble nibbles

-- an odd number of nibbles is filled with a NULL, whose nibble is 0
abbrev pub filled : List ℕ → List ℕ
filled nibbles = if length nibbles % 2 == 0 then nibbles else nibbles ++ 0x0 ∷ []

-- the nibbles of packets
abbrev pub spelled : Order → List StpPacket → List ℕ
spelled order packets = flat_map (short order) packets

-- how many nibbles the shortest spelling of a packet has
abbrev pub short_len : StpPacket → ℕ
short_len Async = 22
short_len (Plain row payload) = length (line_of row).opcode + (line_of row).payload
short_len (Stamped row payload size word) = length (line_of row).opcode + (line_of row).payload + 1 + nibble_count size

-- the nibbles for what is put, after these packets and nibbles: for an item its packets, and for a flush what fills a
-- byte
abbrev pub nibbles_after : Order → List StpPacket → List ℕ → List Put → List ℕ
nibbles_after order before nibbles [] = nibbles
nibbles_after order before nibbles (Of item ∷ puts) =
    let more = packets_with before item in
    nibbles_after order (before ++ more) (nibbles ++ spelled order more) puts
nibbles_after order before nibbles (Flush ∷ puts) = nibbles_after order before (filled nibbles) puts

unfoldable pub nibbles_for : Order → List Put → List ℕ
nibbles_for order puts = nibbles_after order [] [] puts

-- the bytes that these puts and flushes have written, where an odd last nibble is kept, and all bytes with the end
abbrev pub written : Order → List Put → List ℕ
written order puts = joined (nibbles_for order puts)

abbrev pub encoded : Order → List Put → List ℕ
encoded order puts = joined (filled (nibbles_for order puts))

-- the nibble that is kept then
abbrev pub kept_nibble : Order → List Put → List ℕ
kept_nibble order puts = option_to_list (odd_nibble (nibbles_for order puts))

-- what one more item adds to the bytes that are written, and what a flush or the end adds
abbrev pub put_bytes : Order → List Put → StpItem → List ℕ
put_bytes order puts item =
    joined (kept_nibble order puts ++ spelled order (packets_with (packets_for (items_in puts)) item))

abbrev pub end_bytes : Order → List Put → List ℕ
end_bytes order puts = joined (filled (kept_nibble order puts))
