-- The packets and the items that a source's list of bytes is.
use Rattle.std.specs.Prelude.{◌≡◌, ◌⊎◌, List, [], ◌∷◌, ◌++◌, length, Bool, true, false, Option, None, Some}
use Rattle.stp_codec.specs.Names.{Place, Placed, units_of, nibbles_of, by_unit, IsNowhere, IsFirst, Pattern, pattern_of}
use Rattle.stp_codec.specs.Names.{Found, hunt, progress, stream_in, Stream, Notice, shown, decorated, carried, Order}
use Rattle.stp_codec.specs.Names.{StpPacket, Async, StpItem, Partial, Start, rule, attribute}

-- what a decoder hunts for: 21 nibbles F and a nibble 0, which spell an ASYNC
abbrev pub pattern : Pattern
pattern = record { unit = 15; most = 21; last = 0 }

-- the packets of nibbles, read from the first on, or in a hunt from the least place of the pattern on
abbrev pub packets_in : Order → Bool → List Placed → Stream StpPacket
packets_in order hunts n = stream_in pattern Async (by_unit (rule order)) Start hunts n

-- the packets alone, in order
abbrev pub packets_of : Order → Bool → List Placed → List StpPacket
packets_of order hunts n = carried attribute [] (packets_in order hunts n).given

-- each packet as the item that it is by all packets up to it
abbrev pub items_at : Order → Bool → List Placed → Stream StpItem
items_at order hunts n = decorated attribute [] (packets_in order hunts n)

-- the items of bytes
abbrev pub items_in : Order → Bool → List Placed → Stream StpItem
items_in order hunts u = items_at order hunts (nibbles_of u)

-- the nibbles of the unfinished packet
abbrev pub rest_found : Option (Found Partial StpPacket) → List Placed
rest_found None = []
rest_found (Some found) = found.reading.rest

abbrev pub rest_in : Order → Bool → List Placed → List Placed
rest_in order false n = (progress (by_unit (rule order)) Start n).rest
rest_in order true n = rest_found (hunt pattern Async (by_unit (rule order)) Start n).found

-- What a hunt is: the pattern is nowhere, and all nibbles are skipped; or the nibbles before its least place are
-- skipped, and the reading begins there, with the lock's notice at the place of the pattern's last nibble.
abbrev pub IsHunt : Order → List Placed → Stream StpPacket → Type 0
IsHunt order n s =
    (IsNowhere (pattern_of pattern) (units_of n)
    × (s ≡ record { given = []; fault = None; held = 0; skipped = length n; locked = false }))
    ⊎ ((before : List Placed) × (after : List Placed) × (place : Place) × (n ≡ before ++ after)
    × IsFirst (pattern_of pattern) (units_of n) (units_of before)
    × (s ≡ shown ((Notice (length before), place) ∷ []) (length before) (progress (by_unit (rule order)) Start after))
    × ((more : List (StpPacket × Place))
    × ((progress (by_unit (rule order)) Start after).items ≡ (Async, place) ∷ more)))
