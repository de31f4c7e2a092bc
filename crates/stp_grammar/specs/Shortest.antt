-- The shortest spelling of a packet (MIPI System Trace Protocol, version 2, in this project's profile).
use Rattle.std.specs.Prelude.{◌≡◌, ℕ, zero, suc, ◌/◌, ◌%◌, ◌<◌, ◌≤◌, List, [], ◌∷◌, ◌++◌, length, replicate, reverse}
use Rattle.std.specs.Prelude.{All, true, false}
use Rattle.stp_grammar.specs.Names.{nibble_count}
use Rattle.stp_grammar.specs.declared.packet.Order.{Order}
use Rattle.stp_grammar.specs.declared.packet.Order.TheVariants.{Msn, Lsn}
use Rattle.stp_grammar.specs.declared.packet.StpPacket.{StpPacket}
use Rattle.stp_grammar.specs.declared.packet.StpPacket.TheVariants.{Async, Plain, Stamped}
use Rattle.stp_grammar.specs.Opcodes.{line_of}
use Rattle.stp_grammar.specs.Spelling.{Spells}

-- this many nibbles of a number, the least significant first
abbrev pub digits : ℕ → ℕ → List ℕ
digits zero value = []
digits (suc count) value = (value % 16) ∷ digits count (value / 16)

-- and in the order
abbrev pub nibbles_of_number : Order → ℕ → ℕ → List ℕ
nibbles_of_number Lsn count value = digits count value
nibbles_of_number Msn count value = reverse (digits count value)

-- ASYNC with 21 nibbles F, and of any other packet its opcode, payload and timestamp
abbrev pub short : Order → StpPacket → List ℕ
short order Async = replicate 21 0xF ++ 0x0 ∷ []
short order (Plain row payload) =
    let line = line_of row in line.opcode ++ nibbles_of_number order line.payload payload
short order (Stamped row payload size word) =
    let line = line_of row in
    line.opcode
    ++ (nibbles_of_number order line.payload payload ++ (size ∷ nibbles_of_number order (nibble_count size) word))

-- a packet has a timestamp exactly where its row has one
abbrev pub IsByRow : StpPacket → Type 0
IsByRow Async = Unit {0}
IsByRow (Plain row payload) = (line_of row).stamped ≡ false
IsByRow (Stamped row payload size word) = (line_of row).stamped ≡ true

-- It spells the packet, and no spelling is shorter.
pub record HasShortest (order : Order) (packet : StpPacket) : Type 0 where
  pub spells : Spells order packet (short order packet)
  pub nibbles : All (λ b. b < 16) (short order packet)
  pub least : (r : List ℕ) → Spells order packet r → length (short order packet) ≤ length r
