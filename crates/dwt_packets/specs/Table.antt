-- What a hardware packet means, by its discriminator (the manual's discriminator ID), size and value (ARMv7-M
-- Architecture Reference Manual, Arm DDI 0403E, appendix D4 'Debug ITM and DWT Packet Protocol', section D4.3 'DWT use
-- of Hardware source packets'). Titles in quotes are those of its parts.
use Rattle.std.specs.Prelude.{◌≡◌, ℕ, ◌+◌, ◌-◌, ◌*◌, ◌/◌, ◌%◌, ◌^◌, Bool, true, false, ◌==◌, ◌&&◌, nat_lt}
use Rattle.std.specs.Prelude.{if◌then◌else◌, List, [], ◌∷◌, ◌++◌, find}
use Rattle.std.specs.List.{list_any}
use Rattle.std.specs.Option.{option_map_or}
use Rattle.itm_grammar.specs.declared.packet.Size.{Size}
use Rattle.itm_grammar.specs.declared.packet.Size.TheVariants.{One, Two, Four}
use Rattle.dwt_packets.specs.declared.item.Change.{Change}
use Rattle.dwt_packets.specs.declared.item.Change.TheVariants.{Enter, Exit, Return}
use Rattle.dwt_packets.specs.declared.item.DwtItem.{DwtItem}
use Rattle.dwt_packets.specs.declared.item.DwtItem.TheVariants.{Counters, Exception, Sample, Asleep, MatchPc}
use Rattle.dwt_packets.specs.declared.item.DwtItem.TheVariants.{MatchAddress, Read, Written, Other}

-- bits `high` to `low` of a number
abbrev pub bits : ℕ → ℕ → ℕ → ℕ
bits high low value = value / 2 ^ low % 2 ^ (high + 1 - low)

-- FN, bits 13 and 12 of an exception trace packet: 01 entered, 10 exited, 11 returned to
abbrev pub change_of : ℕ → Change
change_of field = if field == 1 then Enter else (if field == 2 then Exit else Return)

-- a row of the table: a discriminator, which sizes and which values it has, and the item of these
pub record Row : Type 0 where
  pub disc : ℕ
  pub has_size : Size → Bool
  pub has_value : ℕ → Bool
  pub item : Size → ℕ → DwtItem

abbrev pub row : ℕ → (Size → Bool) → (ℕ → Bool) → (Size → ℕ → DwtItem) → Row
row disc has_size has_value item = record { disc = disc; has_size = has_size; has_value = has_value; item = item }

-- it is this size
abbrev pub is_size : Size → Size → Bool
is_size One One = true
is_size Two Two = true
is_size Four Four = true
is_size size other = false

-- the rows of comparator c, the manual's 'Data trace packets': PC value, address offset, data value read and written
abbrev pub comparator_rows : ℕ → List Row
comparator_rows c =
    row (8 + 2 * c) (is_size Four) (λ v. true) (λ s v. MatchPc c v)
    ∷ row (9 + 2 * c) (is_size Two) (λ v. true) (λ s v. MatchAddress c v)
    ∷ row (16 + 2 * c) (λ s. true) (λ v. true) (λ s v. Read c s v)
    ∷ row (17 + 2 * c) (λ s. true) (λ v. true) (λ s v. Written c s v)
    ∷ []

-- The table: 'Event counter packet', 'Exception trace packet', 'Periodic PC sample packets' of a PC and of a processor
-- that sleeps, and the data trace packets. Where bits have to be 0, they are reserved; that a packet with others set is
-- another item is this project's profile.
abbrev pub table : List Row
table =
    row 0 (is_size One) (λ v. bits 7 6 v == 0) (λ s v. Counters v)
    ∷ row 1 (is_size Two) (λ v. bits 15 14 v == 0 && (bits 11 9 v == 0 && nat_lt 0 (bits 13 12 v)))
    (λ s v. Exception (bits 8 0 v) (change_of (bits 13 12 v)))
    ∷ row 2 (is_size Four) (λ v. true) (λ s v. Sample v)
    ∷ row 2 (is_size One) (λ v. v == 0) (λ s v. Asleep)
    ∷ (comparator_rows 0 ++ (comparator_rows 1 ++ (comparator_rows 2 ++ comparator_rows 3)))

-- a row fits a packet
abbrev pub fits : ℕ → Size → ℕ → Row → Bool
fits disc size value row = disc == row.disc && (row.has_size size && row.has_value value)

-- no row of the table does
unfoldable pub NoRowFits : ℕ → Size → ℕ → Type 0
NoRowFits disc size value = list_any (fits disc size value) table ≡ false

-- what a packet means: the item of the first row that fits, and where none fits, another item
unfoldable pub name : ℕ → Size → ℕ → DwtItem
name disc size value =
    option_map_or (λ row. row.item size value) (find (fits disc size value) table) (Other disc size value)

-- that other item, which no row has
abbrev pub is_other : DwtItem → Bool
is_other (Other disc size value) = true
is_other item = false
