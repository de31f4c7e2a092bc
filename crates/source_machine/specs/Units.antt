-- The machine of a source over its units, of which the first may be in the middle of a byte.
use Rattle.std.specs.Prelude.{◌≡◌, ℕ, ◌+◌, List, [], ◌∷◌, ◌++◌, Bool, None}
use Rattle.source_machine.specs.Names.{Placed, byte_at, low_of, high_of, Stream, Grows, Step, packets_in, Order}
use Rattle.source_machine.specs.Names.{items_at, nibbles_after, nibbles_from, taken_by, before_by, Packet}
use Rattle.source_machine.specs.Names.{Itm as ItmPacket, Stp as StpPacket, SourceKind, stream_as}
use Rattle.itm_codec.specs.Decoder as itm
use Rattle.stp_codec.specs.Decoder as stp
use Rattle.source_events.specs.declared.plan.SourceKind.TheVariants.{Itm as ItmKind, Stp as StpKind}
use Rattle.source_machine.specs.Machine.{held_of, skipped_by}
use Rattle.source_machine.specs.declared.machine.SourceMachine.{SourceMachine}
use Rattle.source_machine.specs.declared.machine.SourceMachine.TheVariants.{Itm, Stp}

abbrev pub kind_of : SourceMachine → SourceKind
kind_of (Itm decoder) = ItmKind
kind_of (Stp decoder) = StpKind

-- what units read as, from the first one on or in a hunt
abbrev pub reads_on : SourceMachine → Bool → List Placed → Stream Packet
reads_on (Itm decoder) hunts n = stream_as ItmPacket (packets_in hunts n)
reads_on (Stp decoder) hunts n = stream_as StpPacket (items_at (stp.order_of decoder) hunts n)

-- of a source of this kind
abbrev pub reads_by : Order → SourceKind → Bool → List Placed → Stream Packet
reads_by order ItmKind hunts n = stream_as ItmPacket (packets_in hunts n)
reads_by order StpKind hunts n = stream_as StpPacket (items_at order hunts n)

-- what units read as, in its mode
abbrev pub reading_on : SourceMachine → List Placed → Stream Packet
reading_on (Itm decoder) n = stream_as ItmPacket (packets_in (itm.is_hunter decoder) n)
reading_on (Stp decoder) n =
    stream_as StpPacket (items_at (stp.order_of decoder) (stp.is_hunter decoder) n)

-- A machine of the same kind reads units as this one does, in its mode and in any.
pub record ReadsAlike (old new : SourceMachine) : Type 0 where
  pub kind : kind_of new ≡ kind_of old
  pub any : reads_on new ≡ reads_on old
  pub own : reading_on new ≡ reading_on old

-- its decoder stands for these units
abbrev pub StandsOn : SourceMachine → List Placed → Type 0
StandsOn (Itm decoder) n = itm.Stands decoder n
StandsOn (Stp decoder) n = stp.StandsAt decoder n

-- the units of a byte, and those from a half on
abbrev pub units_at : SourceKind → ℕ → ℕ → List Placed
units_at ItmKind at byte = byte_at at byte ∷ []
units_at StpKind at byte = low_of at byte ∷ (high_of at byte ∷ [])

abbrev pub units_from : SourceKind → ℕ → ℕ → ℕ → List Placed
units_from ItmKind half at byte = byte_at at byte ∷ []
units_from StpKind half at byte = nibbles_from half at byte

-- and those after it
abbrev pub units_after : SourceKind → ℕ → ℕ → ℕ → List Placed
units_after ItmKind half at byte = []
units_after StpKind half at byte = nibbles_after half at byte

-- those that an answer takes, the last of them being the fault's, if it is one; and those before the last
abbrev pub taken_on : SourceKind → ℕ → ℕ → Step Packet → List Placed
taken_on ItmKind at byte step = byte_at at byte ∷ []
taken_on StpKind at byte step = taken_by at byte step

abbrev pub before_on : SourceKind → ℕ → ℕ → Step Packet → List Placed
before_on ItmKind at byte step = []
before_on StpKind at byte step = before_by at byte step

-- After these units it took those of a byte, up to a fault. Before the last of them there is none.
pub record TakesUnits (old new : SourceMachine) (n : List Placed) (at byte : ℕ) (step : Step Packet) : Type 0 where
  pub list : StandsOn new (n ++ taken_on (kind_of old) at byte step)
  pub grows : Grows (reading_on old n)
      (reading_on old (n ++ taken_on (kind_of old) at byte step)) at step
  pub sound : (reading_on old (n ++ before_on (kind_of old) at byte step)).fault ≡ None

-- What it shows of units: after a fault it holds what the reading held before the fault's.
pub record Falls (m : SourceMachine) (reading : List Placed → Stream Packet) (before taken : List Placed)
    : Type 0 where
  pub skipped : skipped_by m ≡ (reading taken).skipped
  pub held : held_of m + 1 ≡ (reading taken).held
