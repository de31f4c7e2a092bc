-- The answers of a decoder with its items seen as packets.
use Rattle.std.specs.Prelude.{ℕ, Option, None, Some}
use Rattle.source_machine.specs.Names.{Step, Quiet, Skipping, Item, Locked, Fault, StpItem, Packet, Stp}

abbrev pub step_as : {V W : Type 0} → (V → W) → Step V → Step W
step_as f Quiet = Quiet
step_as f Skipping = Skipping
step_as f (Item half v) = Item half (f v)
step_as f (Locked skipped half v) = Locked skipped half (f v)
step_as f (Fault fault) = Fault fault

-- the answer to the byte in this half of which an STP packet ends: its item, if it has one
abbrev pub packet_in : ℕ → Option StpItem → Option (Step Packet)
packet_in half None = None
packet_in half (Some item) = Some (Item half (Stp item))
