-- The items of the exercise (this project's own): item k, from 0 on, by k mod 3 and n = k div 3. All of them are tables
-- by n alone.
use Rattle.std.specs.Prelude.{ℕ, ◌+◌, ◌/◌, ◌%◌, ◌<◌, ◌==◌, if◌then◌else◌, Some, false}
use Rattle.itm_grammar.specs.Proper.{IsProper}
use Rattle.itm_grammar.specs.declared.packet.Size.TheVariants.{Four}
use Rattle.itm_grammar.specs.declared.packet.Lateness.TheVariants.{Exact}
use Rattle.itm_grammar.specs.declared.packet.ItmPacket.{ItmPacket}
use Rattle.itm_grammar.specs.declared.packet.ItmPacket.TheVariants.{Sync, Software, Local}
use Rattle.stp_grammar.specs.Proper.{IsProperItem}
use Rattle.stp_grammar.specs.declared.packet.Width.TheVariants.{Sixteen}
use Rattle.stp_grammar.specs.declared.item.Place.{Place}
use Rattle.stp_grammar.specs.declared.item.Stamp.TheVariants.{Natural}
use Rattle.stp_grammar.specs.declared.item.StpItem.{StpItem}
use Rattle.stp_grammar.specs.declared.item.StpItem.TheVariants.{Async, Version, Datum}
use Rattle.trace_vectors.specs.declared.made.Made.{Made}
use Rattle.trace_vectors.specs.declared.made.Made.TheVariants.{Itm, Stp, Raw, Trigger}

-- where k mod 3 is 0, a packet of the ITM source
abbrev pub itm_packet : ℕ → ItmPacket
itm_packet n =
    if n % 16 == 0 then Sync
    else if n % 2 == 1 then Software (n % 32) Four n
    else Local Exact (n % 1000 + 1)

-- the place of a datum
abbrev pub place : ℕ → Place
place n = record { master = Some (n % 4); channel = Some (n % 8) }

-- where it is 1, an item of the STP source: the first is Async and the second Version 3, so that each datum has a
-- natural timestamp
abbrev pub stp_item : ℕ → StpItem
stp_item n =
    if n % 16 == 0 then Async
    else if n % 16 == 1 then Version 3
    else Datum (place n) Sixteen (n % 65536) false (Natural n)

-- where it is 2, a byte of source 16, or of the trigger source
abbrev pub byte_item : ℕ → Made
byte_item n = if n % 16 == 15 then Trigger (n % 256) else Raw (n % 256)

unfoldable pub item_of : ℕ → Made
item_of k =
    if k % 3 == 0 then Itm (itm_packet (k / 3))
    else if k % 3 == 1 then Stp (stp_item (k / 3))
    else byte_item (k / 3)

-- its numbers are in their ranges
abbrev pub IsProperMade : Made → Type 0
IsProperMade (Itm packet) = IsProper packet
IsProperMade (Stp item) = IsProperItem item
IsProperMade (Raw byte) = byte < 256
IsProperMade (Trigger byte) = byte < 256
