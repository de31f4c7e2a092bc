-- What a decoder answers to a byte, by what the grammar says of the rest with that byte.
use Rattle.std.specs.Prelude.{◌≡◌, ℕ, List}
use Rattle.trace_values.specs.declared.step.Step.{Step}
use Rattle.trace_values.specs.declared.step.Step.TheVariants.{Quiet, Skipping, Item, Locked, Fault as Faulty}
use Rattle.itm_codec.specs.Names.{Placed, units_of, IsFront, InUnits, ItmPacket, Spells, why}

-- an item exactly where the rest spells a packet, a fault exactly where it is the front of no spelling, and quiet in
-- every other case
abbrev pub AnswersBy : Step ItmPacket → ℕ → List Placed → Type 0
AnswersBy (Item half packet) at r = (half ≡ 0) × InUnits Spells packet r
AnswersBy (Faulty f) at r =
    (f.at ≡ at) × (f.half ≡ 0) × (f.reason ≡ why (units_of r)) × (IsFront (InUnits Spells) r → ⊥)
AnswersBy Quiet at r = IsFront (InUnits Spells) r × ((packet : ItmPacket) → InUnits Spells packet r → ⊥)
AnswersBy Skipping at r = ⊥
AnswersBy (Locked skipped half packet) at r = ⊥
