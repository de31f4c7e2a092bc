-- What eight bytes begin with.
use Rattle.std.specs.Prelude.{◌≡◌, ◌<◌, ◌≤◌, ◌/◌, ◌%◌, ℕ, List, [], ◌∷◌, length, take}
use Rattle.itm_codec.specs.Names.{Within, walk, Header, rule, Spells, IsProper, Found, Ends, Waits, Unknown}
use Rattle.itm_codec.specs.Reached.{reached}
use Rattle.itm_codec.specs.declared.decoder.ItmEnd.{ItmEnd}
use Rattle.itm_codec.specs.declared.whole.InWindow.{InWindow}
use Rattle.itm_codec.specs.declared.whole.InWindow.TheVariants.{Packet, Other}

-- where it is a packet, the first so many of these bytes spell it
abbrev pub IsFound : List ℕ → InWindow → Type 0
IsFound window (Packet bytes packet) =
    (0 < bytes) × (bytes ≤ length window) × Spells packet (take bytes window) × IsProper packet
IsFound window Other = Unit {0}

-- the four bytes that are this number, the least byte first
abbrev pub four_bytes : ℕ → List ℕ
four_bytes n = n % 256 ∷ (n / 256 % 256 ∷ (n / 65536 % 256 ∷ (n / 16777216 % 256 ∷ [])))

-- the first so many of these bytes are within a packet
abbrev pub IsFrontOf : List ℕ → ℕ → Type 0
IsFrontOf window count = walk rule Header (take count window) ≡ Within (reached Header (take count window))

-- what the first so many of these bytes are to a packet that begins there
abbrev pub IsSeen : List ℕ → ℕ → Found ItmEnd → Type 0
IsSeen window count (Ends end) =
    (0 < end.bytes) × (end.bytes ≤ count) × (end.bytes ≤ length window)
    × Spells end.packet (take end.bytes window) × IsProper end.packet
IsSeen window count Waits = (count < 8) × IsFrontOf window count
IsSeen window count Unknown = Unit {0}
