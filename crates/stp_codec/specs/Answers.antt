-- What a decoder answers to a nibble and to a byte, by what the grammar says of the rest with it.
use Rattle.std.specs.Prelude.{◌≡◌, ◌⊎◌, ℕ, List, [], ◌∷◌, ◌++◌, Some, None}
use Rattle.stp_codec.specs.Names.{Step, Quiet, Skipping, Item, Locked, Fault as Faulty, Place, Placed, units_of, low_of}
use Rattle.stp_codec.specs.Names.{high_of, IsFront, InUnits, Order, StpPacket, StpItem, Spells, why, item_of}

-- The answer to a nibble at this place, where these packets are before it, and r is the rest with it: an item exactly
-- where the rest spells a packet that has one, a fault exactly where it is the front of no spelling, and quiet in every
-- other case.
-- `after` and `rest` are the packets and the rest after the nibble, where it is no fault.
abbrev pub AnswersNibble : Order → List StpPacket → List Placed → Place → Step StpItem → List StpPacket → List Placed →
    Type 0
AnswersNibble order before r place (Item half item) after rest =
    (packet : StpPacket) × (half ≡ place.half) × InUnits (Spells order) packet r
    × (after ≡ before ++ packet ∷ []) × (rest ≡ []) × (item_of after packet ≡ Some item)
AnswersNibble order before r place (Faulty f) after rest =
    (f.at ≡ place.at) × (f.half ≡ place.half) × (f.reason ≡ why (units_of r)) × (IsFront (InUnits (Spells order)) r → ⊥)
AnswersNibble order before r place Quiet after rest =
    ((packet : StpPacket) × InUnits (Spells order) packet r
    × (after ≡ before ++ packet ∷ []) × (rest ≡ []) × (item_of after packet ≡ None))
    ⊎ (IsFront (InUnits (Spells order)) r × ((packet : StpPacket) → InUnits (Spells order) packet r → ⊥)
    × (after ≡ before) × (rest ≡ r))
AnswersNibble order before r place Skipping after rest = ⊥
AnswersNibble order before r place (Locked skipped half item) after rest = ⊥

-- The answer to a byte, where this is the answer to its low nibble, after which there are these packets and this rest:
-- a fault there is the byte's; with an item there the high nibble is quiet; and else the byte's answer is that to the
-- high nibble.
-- So at most one item ends in a byte, and none in one with a fault.
abbrev pub AnswersHigh : Order → List StpPacket → List Placed → ℕ → ℕ → Step StpItem → Step StpItem → Type 0
AnswersHigh order before rest at byte (Faulty f) step = step ≡ Faulty f
AnswersHigh order before rest at byte Quiet step =
    (after : List StpPacket) × (left : List Placed)
    × AnswersNibble order before (rest ++ high_of at byte ∷ []) (high_of at byte).place step after left
AnswersHigh order before rest at byte (Item half item) step =
    (step ≡ Item half item) × (after : List StpPacket) × (left : List Placed)
    × AnswersNibble order before (rest ++ high_of at byte ∷ []) (high_of at byte).place Quiet after left
AnswersHigh order before rest at byte Skipping step = ⊥
AnswersHigh order before rest at byte (Locked skipped half item) step = ⊥

-- The answer to a byte at this offset, where these packets and this rest are before it: by those to its nibbles, the
-- low one first.
abbrev pub AnswersByte : Order → List StpPacket → List Placed → ℕ → ℕ → Step StpItem → Type 0
AnswersByte order before rest at byte step =
    (low : Step StpItem) × (between : List StpPacket) × (left : List Placed)
    × AnswersNibble order before (rest ++ low_of at byte ∷ []) (low_of at byte).place low between left
    × AnswersHigh order between left at byte low step
