-- The packets that a source's list of bytes is. A hunt begins at a synchronisation packet (ARMv7-M Architecture
-- Reference Manual, Arm DDI 0403E, appendix D4 'Debug ITM and DWT Packet Protocol', section D4.2 'Packet descriptions',
-- 'Synchronization packet').
use Rattle.std.specs.Prelude.{◌≡◌, ◌⊎◌, List, [], ◌∷◌, ◌++◌, length, Bool, true, false, Option, None, Some}
use Rattle.itm_codec.specs.Names.{Place, Placed, units_of, by_unit, Pattern, pattern_of, hunt, progress, stream_in}
use Rattle.itm_codec.specs.Names.{Stream, Notice, shown, ItmPacket, Sync, Partial, Header, rule}
use Rattle.trace_values.specs.Hunt.{IsNowhere, IsFirst}
use Rattle.trace_values.specs.Hunted.{Found}

-- what a decoder hunts for: 00 00 00 00 00 80, which spells a synchronisation packet
abbrev pub pattern : Pattern
pattern = record { unit = 0x00; most = 5; last = 0x80 }

-- the reading of the bytes from the first on, or in a hunt from the least place of the pattern on
abbrev pub packets_in : Bool → List Placed → Stream ItmPacket
packets_in hunts u = stream_in pattern Sync (by_unit rule) Header hunts u

-- the bytes of the unfinished packet
abbrev pub rest_found : Option (Found Partial ItmPacket) → List Placed
rest_found None = []
rest_found (Some found) = found.reading.rest

abbrev pub rest_in : Bool → List Placed → List Placed
rest_in false u = (progress (by_unit rule) Header u).rest
rest_in true u = rest_found (hunt pattern Sync (by_unit rule) Header u).found

-- What a hunt is: the pattern is nowhere, and all bytes are skipped; or the bytes before its least place are
-- skipped, and the reading begins there, with the lock's notice at the place of the pattern's last byte.
abbrev pub IsHunt : List Placed → Stream ItmPacket → Type 0
IsHunt u s =
    (IsNowhere (pattern_of pattern) (units_of u)
    × (s ≡ record { given = []; fault = None; held = 0; skipped = length u; locked = false }))
    ⊎ ((before : List Placed) × (after : List Placed) × (place : Place) × (u ≡ before ++ after)
    × IsFirst (pattern_of pattern) (units_of u) (units_of before)
    × (s ≡ shown ((Notice (length before), place) ∷ []) (length before) (progress (by_unit rule) Header after))
    × ((more : List (ItmPacket × Place)) × ((progress (by_unit rule) Header after).items ≡ (Sync, place) ∷ more)))
