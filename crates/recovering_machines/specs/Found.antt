-- What bytes of a source say that are taken at once.
use Rattle.std.specs.Prelude.{◌≡◌, ℕ, ◌+◌, ◌*◌, ◌≤◌, List, [], ◌∷◌, ◌++◌, length, map, Option, None, Some}
use Rattle.std.specs.Prelude.{Bool, true}
use Rattle.std.specs.Option.{option_map}
use Rattle.trace_values.specs.declared.cell.Cell.{Cell}
use Rattle.trace_values.specs.Placed.{Place, Placed}
use Rattle.trace_values.specs.Stream.{Said, Stream, Kept}
use Rattle.source_events.specs.declared.event.Event.{Event}
use Rattle.source_events.specs.declared.packet.Packet.{Packet}
use Rattle.source_events.specs.declared.packet.Packet.TheVariants.{Itm as ItmPacket, Stp as StpPacket}
use Rattle.source_events.specs.Merge.{told}
use Rattle.source_events.specs.Report.{lifted}
use Rattle.source_events.specs.Runs.{bytes_of, placed_run}
use Rattle.source_machine.specs.Machine as machine
use Rattle.source_machine.specs.Units.{ReadsAlike}
use Rattle.source_machine.specs.declared.machine.SourceMachine.{SourceMachine}
use Rattle.source_machine.specs.declared.packets.Told.{Told}
use Rattle.source_machine.specs.declared.packets.Told.TheVariants.{Itm, Stp}
use Rattle.stp_grammar.specs.Said.{said_item}
use Rattle.stretch_readings.specs.declared.heard.Heard.{Heard}
use Rattle.stretch_readings.specs.declared.heard.Heard.TheVariants.{Read}
use Rattle.stretch_readings.specs.Stretches.{Stretches}
use Rattle.recovering_machines.specs.Run.{GoesOn, between, with_run}
use Rattle.recovering_machines.specs.Source.{Stands, heard_by}
use Rattle.recovering_machines.specs.declared.source.RecoveringSource.{RecoveringSource}

-- packets, each with the place where it ends, as a reading and a recovering one give them
abbrev pub kept : List (Packet × Place) → List (Said Packet × Place)
kept packets = map (λ p. (Kept p.0, p.1)) packets

abbrev pub heard_in : List (Packet × Place) → List (Said (Heard Packet) × Place)
heard_in packets = map (λ p. (Kept (Read p.0), p.1)) packets

-- the packet that ends in this half of the byte at this offset, if one does
abbrev pub ended : ℕ → ℕ → Option Packet → List (Packet × Place)
ended half at None = []
ended half at (Some packet) = (packet, record { at = at; half = half }) ∷ []

-- the packet of what is told
abbrev pub packet_of : Option Told → Option Packet
packet_of None = None
packet_of (Some (Itm packet)) = Some (ItmPacket packet)
packet_of (Some (Stp said)) = option_map StpPacket (said_item said)

-- After any list that the machine stood for these cells give these packets, and no fault, and the machine goes on.
pub record PassesCells (reading : List Placed → Stream Packet) (was now : List Placed → Type 0) (cells : List Cell)
    (packets : List (Packet × Place)) : Type 0 where
  pub list : (u : List Placed) → was u → now (u ++ placed_run cells)
  pub given : (u : List Placed) → was u → (reading (u ++ placed_run cells)).given ≡ (reading u).given ++ kept packets
  pub sound : (u : List Placed) → was u → (reading (u ++ placed_run cells)).fault ≡ None

-- What a kind of machine reads a list as, and which lists it stands for; whether it is live, and how many units it
-- holds and has skipped.
pub record MachineKind (M V : Type 0) : Type 1 where
  pub reading : M → List Placed → Stream V
  pub stands : M → List Placed → Type 0
  pub live : M → Bool
  pub held : M → ℕ
  pub skipped : M → ℕ

-- the machines of mapped sources
abbrev pub source_machines : MachineKind SourceMachine Packet
source_machines = record {
  reading = machine.reading_of;
  stands = machine.Stands;
  live = machine.is_live;
  held = machine.held_of;
  skipped = machine.skipped_by;
}

-- A machine took the cells of a run from one index up to another, and the packets in them were given, as events of this
-- source.
pub record TookPackets {M S : Type 0} (kind : MachineKind M Packet) (source : M → SourceMachine)
    (gets : S → List (Event (Heard Packet)) → S → Type 0) (room : S → ℕ) (id : ℕ) (cells : List Cell) (from to : ℕ)
    (old new : M) (before after : S) : Type 0 where
  pub order : from ≤ to
  pub within : to ≤ length cells
  pub same : kind.reading new ≡ kind.reading old
  pub alike : ReadsAlike (source old) (source new)
  pub live : kind.live new ≡ true
  pub few : kind.held new + kind.skipped new + 2 * from ≤ kind.held old + kind.skipped old + 2 * to
  pub space : room before + 2 * from ≤ room after + 2 * to
  pub packets : List (Packet × Place)
  pub received : gets before (told (Some id) (lifted (heard_in packets))) after
  pub passes : PassesCells (kind.reading old) (kind.stands old) (kind.stands new) (between from to cells) packets

-- Whatever cells these bytes are in, a source took them, they say this with the last of them, and none is a fault.
pub record TakesCells (old new : RecoveringSource) (bytes : List ℕ) (said : ℕ → List (Said (Heard Packet) × Place))
    : Type 0 where
  pub list : (r : Stretches) (front : List Cell) (last : Cell) → Stands old r →
      bytes_of (front ++ last ∷ []) ≡ bytes → Stands new (with_run old r (front ++ last ∷ []))
  pub given : (r : Stretches) (front : List Cell) (last : Cell) → Stands old r →
      bytes_of (front ++ last ∷ []) ≡ bytes → (heard_by old (with_run old r (front ++ last ∷ []))).given
      ≡ (heard_by old r).given ++ said last.at
  pub goes : (r : Stretches) (front : List Cell) (last : Cell) → Stands old r →
      bytes_of (front ++ last ∷ []) ≡ bytes → GoesOn old r (front ++ last ∷ [])
