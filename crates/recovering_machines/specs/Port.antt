-- What a recovering port keeps (CoreSight Architecture Specification, Arm IHI 0029E (version 3.0), chapter 'Trace
-- Formatter', its section on frames; how it goes on after a fault is this project's profile).
use Rattle.std.specs.Prelude.{◌≡◌, ℕ, ◌+◌, List, [], ◌∷◌, ◌++◌, map, Bool, true, Option}
use Rattle.std.specs.List.{sum_by}
use Rattle.trace_values.specs.Placed.{Placed, byte_at, placed_from}
use Rattle.trace_values.specs.Stream.{Stream}
use Rattle.trace_values.specs.Moded.{stream_in}
use Rattle.frame_grammar.specs.Port.{PortItem, Full, start, rule}
use Rattle.port_sync.specs.Hunting.{pattern}
use Rattle.deformatter.specs.Block as block
use Rattle.deformatter.specs.Block.{FedAs, FedFrame}
use Rattle.deformatter.specs.Deformatter as deformatter
use Rattle.deformatter.specs.Frames as frames
use Rattle.deformatter.specs.Frames.{GrowsByFrame}
use Rattle.deformatter.specs.Growth.{PortGrows}
use Rattle.deformatter.specs.Reading.{port_stream}
use Rattle.deformatter.specs.Resume.{again}
use Rattle.deformatter.specs.declared.deformatter.Deformatter.{Deformatter}
use Rattle.deformatter.specs.declared.step.PortStep.{PortStep}
use Rattle.deformatter.specs.declared.step.PortStep.TheVariants.{Quiet, Half, Full as FullEnds, Frame, Locked}
use Rattle.deformatter.specs.declared.step.PortStep.TheVariants.{Fault as Faulty}
use Rattle.stretch_readings.specs.Stretches.{One, Resumption, Stretches, fed_from, lost_in}
use Rattle.recovering_machines.specs.declared.port.RecoveringPort.{RecoveringPort}

-- the items of a port's bytes, from the first one on or in a hunt
abbrev pub items_by : Bool → List Placed → Stream PortItem
items_by hunts u = stream_in pattern Full rule start hunts u

-- after a fault it hunts from the first byte of the halfword or synchronisation in which the fault is
abbrev pub from_halfword : Resumption
from_halfword = record { hunts = true; again = again }

-- Its deformatter stands for the bytes of the last stretch, in that one's mode, and it has counted what was skipped
-- before.
pub record Keeps (d : Deformatter) (past count : ℕ) (r : Stretches) : Type 0 where
  pub stands : deformatter.Stands d r.now.units
  pub mode : deformatter.is_hunter d ≡ r.now.hunts
  pub past_is : past ≡ sum_by (lost_in items_by from_halfword) r.past
  pub count_is : count ≡ r.now.count

-- it stands for these stretches
abbrev pub Stands : RecoveringPort → Stretches → Type 0
Stands p r = Keeps p.port p.past p.count r

-- how many bytes it holds and skipped
abbrev pub total_of : RecoveringPort → ℕ
total_of p = p.past + p.count + deformatter.tail_of p.port + deformatter.skipped_by p.port

-- the stretches with these bytes, the first of which is at this offset; and with these as the last one's
abbrev pub with_bytes : Stretches → ℕ → List ℕ → Stretches
with_bytes r at bytes = fed_from items_by from_halfword r (map One (placed_from at bytes))

abbrev pub with_units : Stretches → List Placed → Stretches
with_units r u =
    record { past = r.past; now = record { hunts = r.now.hunts; count = r.now.count; units = u } }

-- an answer with its lock's count raised
abbrev pub raised : ℕ → PortStep → PortStep
raised count Quiet = Quiet
raised count Half = Half
raised count FullEnds = FullEnds
raised count Frame = Frame
raised count (Locked skipped) = Locked (count + skipped)
raised count (Faulty f) = Faulty f

-- The answer to a byte: with it the reading of the present stretch grew by this step, whose lock has that one's count
-- besides.
pub record Answers (r : Stretches) (at byte : ℕ) (step : PortStep) : Type 0 where
  pub own : PortStep
  pub is : step ≡ raised r.now.count own
  pub grows : PortGrows (port_stream r.now.hunts r.now.units)
      (port_stream r.now.hunts (r.now.units ++ byte_at at byte ∷ [])) at own

-- These bytes came, the first of which is at this offset: this is the answer to the last of them, and that to each one
-- before it is quiet.
abbrev pub IsFed : Stretches → ℕ → List ℕ → PortStep → Type 0
IsFed r at bytes step =
    FedAs (block.Answers r.now.hunts Quiet) (λ u a byte. Answers (with_units r u) a byte step) r.now.units at bytes

-- the present stretch reads, and nothing of a frame or a synchronisation is there
abbrev pub IsBetween : RecoveringPort → Type 0
IsBetween p = frames.IsBetween p.port

-- the ID in force
abbrev pub id_of : RecoveringPort → Option ℕ
id_of p = deformatter.id_of p.port

-- A whole frame of the bytes f, with so many half synchronisations between its halfwords, came after this ID as these
-- bytes from this offset on: they are the present stretch's, whose reading grew by the frame with the last of them.
pub record PassesFrame (r : Stretches) (at : ℕ) (bytes : List ℕ) (f : List Placed) (halves : ℕ) (id : Option ℕ)
    : Type 0 where
  pub list : with_bytes r at bytes ≡ with_units r (r.now.units ++ placed_from at bytes)
  pub grows : GrowsByFrame (port_stream r.now.hunts r.now.units)
      (port_stream r.now.hunts (r.now.units ++ placed_from at bytes)) (placed_from at bytes) f halves id
  pub fed : FedFrame r.now.hunts r.now.units at bytes
