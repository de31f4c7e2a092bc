-- Packets of which the bytes at hand are only a part.
use Rattle.std.specs.Prelude.{◌≡◌, ℕ, ◌*◌, ◌<◌, ◌≤◌, List, [], length, true}
use Rattle.stp_codec.specs.Names.{Next, Go, End, Within, after, walk, Order, StpPacket, Partial}
use Rattle.stp_codec.specs.Names.{IsProper, rule, is_sound}
use Rattle.stp_codec.specs.Wholes.{nibbles_in, between}
use Rattle.stp_codec.specs.declared.cut.Cut.{Cut}
use Rattle.stp_codec.specs.declared.cut.Cut.TheVariants.{Inside, Ended}

-- from this unfinished packet on these nibbles lead to what is said: one that goes on, or the end of a packet
abbrev pub Leads : Order → Partial → List ℕ → Next Partial StpPacket → Type 0
Leads order s r next = walk (rule order) s r ≡ after {U = ℕ} next (λ t. Within t) []

-- all nibbles of these bytes, or so many at their front, do so
abbrev pub CutsInto : Order → Partial → List ℕ → Cut → Type 0
CutsInto order s bytes (Inside t) = Leads order s (nibbles_in bytes) (Go t)
CutsInto order s bytes (Ended nibbles packet) =
    (0 < nibbles) × (nibbles ≤ 2 * length bytes)
    × Leads order s (between (nibbles_in bytes) 0 nibbles) (End packet)

-- the numbers of its packet, or of what is unfinished, are in their ranges
abbrev pub IsProperCut : Cut → Type 0
IsProperCut (Inside t) = is_sound t ≡ true
IsProperCut (Ended nibbles packet) = IsProper packet
