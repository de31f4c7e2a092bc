-- A packet as numbers.
use Rattle.std.specs.Prelude.{◌≡◌, ℕ, zero, suc, ◌*◌, ◌<◌, ◌≤◌, List, length}
use Rattle.stp_codec.specs.Names.{Go, StpPacket, Async, Partial, Start, Second, Run, Msn, IsProper, packet_at}
use Rattle.stp_codec.specs.Names.{row_packet}
use Rattle.stp_codec.specs.Wholes.{nibbles_in, between, Ends, Fronts, left_by}
use Rattle.stp_codec.specs.declared.flat.PacketParts.{PacketParts}

-- the packet of these parts, and where its number is a row's
abbrev pub packet_of : PacketParts → StpPacket
packet_of p = packet_at p.number p.payload p.size p.word

abbrev pub row_packet_of : PacketParts → StpPacket
row_packet_of p = row_packet p.number p.payload p.size p.word

-- what so many nibbles F leave unfinished
abbrev pub run_of : ℕ → Partial
run_of zero = Start
run_of (suc zero) = Second
run_of (suc (suc n)) = Run (suc (suc n))

-- From this unfinished packet on so many nibbles of these bytes end an ASYNC; or they are more than these, which are
-- all within it. It is 0 where neither is known.
pub record RunsTo (s : Partial) (bytes : List ℕ) (there n : ℕ) : Type 0 where
  pub ends : 0 < n → n ≤ there → (n ≤ 2 * length bytes) × Ends Msn (Go s) (between (nibbles_in bytes) 0 n) Async
  pub goes : there < n → (there ≤ 2 * length bytes) × Fronts Msn s (between (nibbles_in bytes) 0 there)

-- After this first nibble, these are the parts of the packet that its nibbles of these bytes end; or they are more than
-- these, which are all within it.
pub record IsPart (first : ℕ) (bytes : List ℕ) (there : ℕ) (parts : PacketParts) : Type 0 where
  pub number : parts.number < 36
  pub none : parts.number ≡ 35 → parts.payload ≡ 0
  pub some : 0 < parts.nibbles
  pub proper : IsProper (packet_of parts)
  pub ends : parts.nibbles ≤ there → (parts.nibbles ≤ 2 * length bytes)
      × Ends Msn (Go (left_by Msn first)) (between (nibbles_in bytes) 0 parts.nibbles) (packet_of parts)
  pub goes : there < parts.nibbles → (there ≤ 2 * length bytes)
      × Fronts Msn (left_by Msn first) (between (nibbles_in bytes) 0 there)
