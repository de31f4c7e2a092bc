-- Which lists of nibbles spell a packet (MIPI System Trace Protocol, version 2). Which opcodes there are, how long
-- payloads are, and which sizes timestamps have, is this project's profile.
use Rattle.std.specs.Prelude.{◌≡◌, ℕ, ◌+◌, ◌*◌, ◌^◌, ◌<◌, ◌≤◌, List, [], ◌∷◌, ◌++◌, length, replicate, Bool, true}
use Rattle.std.specs.Prelude.{false, ◌==◌, ◌&&◌, if◌then◌else◌}
use Rattle.stp_grammar.specs.Names.{Reason, Unsupported, StampSize, BadAsync, nibble_count}
use Rattle.stp_grammar.specs.declared.packet.Order.{Order}
use Rattle.stp_grammar.specs.declared.packet.Order.TheVariants.{Msn, Lsn}
use Rattle.stp_grammar.specs.declared.packet.StpPacket.{StpPacket}
use Rattle.stp_grammar.specs.declared.packet.StpPacket.TheVariants.{Async, Plain, Stamped}
use Rattle.stp_grammar.specs.Opcodes.{line_of, opening_of, Opening, Whole, More, Refused}

-- the number that nibbles make, where the first is the least significant, and where it is the most significant one
abbrev pub number : Order → List ℕ → ℕ
number Lsn [] = 0
number Lsn (b ∷ r) = b + 16 * number Lsn r
number Msn [] = 0
number Msn (b ∷ r) = b * 16 ^ length r + number Msn r

-- these are this many nibbles, and make the number
abbrev pub IsNumber : Order → ℕ → ℕ → List ℕ → Type 0
IsNumber order count value r = (length r ≡ count) × (value ≡ number order r)

-- ASYNC, the synchronisation packet: at least 21 nibbles F, then 0.
-- Any other packet: its row's opcode, then the payload; and where a timestamp follows, then a size nibble under 15, and
-- the word in the nibbles of that size: 0 to 12 nibbles for these sizes, 14 for size 13, and 16 for size 14.
abbrev pub Spells : Order → StpPacket → List ℕ → Type 0
Spells order Async r = (count : ℕ) × (21 ≤ count) × (r ≡ replicate count 15 ++ 0 ∷ [])
Spells order (Plain row payload) r =
    (p : List ℕ) × ((line_of row).stamped ≡ false) × IsNumber order (line_of row).payload payload p
    × (r ≡ (line_of row).opcode ++ p)
Spells order (Stamped row payload size word) r =
    (p : List ℕ) × (w : List ℕ) × ((line_of row).stamped ≡ true) × IsNumber order (line_of row).payload payload p
    × (size < 15) × IsNumber order (nibble_count size) word w × (r ≡ (line_of row).opcode ++ (p ++ (size ∷ w)))

-- Why no packet goes on so: F F begins only an ASYNC, an opcode may be none of the table, and after an opcode only the
-- size of a timestamp can be a fault. What faults there are is this project's profile.
abbrev pub is_extended : List ℕ → Bool
is_extended [] = false
is_extended (a ∷ r) = a == 15

abbrev pub begins_async : List ℕ → Bool
begins_async [] = false
begins_async (a ∷ r) = a == 15 && is_extended r

abbrev pub opening_fault : Opening → Reason
opening_fault (Whole row) = StampSize
opening_fault More = Unsupported
opening_fault Refused = Unsupported

-- the reason, where these are the nibbles up to the one that breaks the packet
abbrev pub why : List ℕ → Reason
why r = if begins_async r then BadAsync else opening_fault (opening_of r)
