-- What the lines of a script write, read again: the report of the written capture.
use Rattle.std.specs.Prelude.{◌≡◌, ◌≢◌, ◌≤◌, ℕ, List, [], ◌∷◌, map, flat_map, Bool, true, false, ◌==◌, Option, None}
use Rattle.std.specs.Prelude.{Some, All}
use Rattle.std.specs.List.{list_any}
use Rattle.script_laws.specs.Names.{Placed, placed, Aligned as FramesAligned, source_list, PortReading, port_reading}
use Rattle.script_laws.specs.Names.{cells_of, Event, What, Locked, Packet, Plan, SourceKind, part, sources_by, kind_of}
use Rattle.script_laws.specs.Names.{stop_in, report, tail_of, Nothing, Of, Line2, One, Flush, Trigger as TriggerLine}
use Rattle.script_laws.specs.Names.{given_packets, given_items, given_bytes, capture_of, RebuildPlan, are_apart, Turns}
use Rattle.trace_values.specs.declared.reading_modes.PacketsMode.TheVariants.{Aligned as PacketsAligned}
use Rattle.source_events.specs.declared.event.What.TheVariants.{Packet as PacketEvent, Raw, Trigger}
use Rattle.source_events.specs.declared.packet.Packet.TheVariants.{Itm as ItmPacket, Stp as StpPacket}
use Rattle.source_events.specs.declared.plan.SourceKind.TheVariants.{Itm, Stp}

-- the plan that a rebuilt capture is read by: the same sources and order, and all from the first byte on
abbrev pub aligned : Plan → Plan
aligned plan = record {
  frames = FramesAligned;
  packets = PacketsAligned;
  itm = plan.itm;
  stp = plan.stp;
  order = plan.order;
}

-- the capture that lines are rebuilt to by a plan, through its funnel if it has one
abbrev pub rebuilt : RebuildPlan → List Line2 → List Placed
rebuilt p lines = placed (capture_of p lines)

-- a funnel that gives a byte in each turn and has no place twice, or none
abbrev pub IsFair : Option Turns → Type 0
IsFair None = Unit {0}
IsFair (Some turns) = (1 ≤ turns.hold) × (are_apart turns.order ≡ true)

-- what the port reads there, and the report
abbrev pub port_of : List Placed → PortReading
port_of u = port_reading FramesAligned u

abbrev pub report_of : Plan → List Placed → List (Event Packet)
report_of plan u = report (sources_by (aligned plan)) FramesAligned u

-- what the events of a source say in it, in order
abbrev pub said_of : Plan → List Placed → ℕ → List (What Packet)
said_of plan u x = map (λ e. e.what) (part (Some x) (report_of plan u))

-- the bytes that raw and trigger events have
abbrev pub bytes_in : What Packet → List ℕ
bytes_in (Locked skipped) = []
bytes_in (PacketEvent packet) = []
bytes_in (Raw bytes) = bytes
bytes_in (Trigger byte) = byte ∷ []

-- it is such an event
abbrev pub SaysBytes : What Packet → Type 0
SaysBytes (Locked skipped) = ⊥
SaysBytes (PacketEvent packet) = ⊥
SaysBytes (Raw bytes) = Unit {0}
SaysBytes (Trigger byte) = Unit {0}

-- some line is of this source
abbrev pub is_line_of : ℕ → Line2 → Bool
is_line_of x (One Nothing) = false
is_line_of x (One (Of id item)) = id == x
is_line_of x Flush = false
is_line_of x (TriggerLine byte) = 125 == x

abbrev pub has_line : ℕ → List Line2 → Bool
has_line x lines = list_any (is_line_of x) lines

-- The report of these bytes has no fault, the port has no tail, and each cell has an ID. What an ITM source says is
-- exactly the packets that the lines give it, and what an STP source says is exactly its items, with their places and
-- timestamps; no byte and no nibble of theirs is left. Each other source says bytes alone, and those of a source from 1
-- to 126, the trigger source among them, are the ones that the lines give it. A source without a line says nothing, and
-- has no cell unless it is the null source; and the port says nothing.
pub record ReadsAsGiven (plan : Plan) (lines : List Line2) (u : List Placed) : Type 0 where
  pub no_fault : stop_in (sources_by (aligned plan)) (port_of u) ≡ None
  pub no_tail : (port_of u).tail ≡ 0
  pub attributed : All (λ c. c.id ≢ None) (cells_of (port_of u))
  pub packets : (x : ℕ) → kind_of plan x ≡ Some Itm →
      said_of plan u x ≡ map (λ packet. PacketEvent (ItmPacket packet)) (given_packets x lines)
  pub items : (x : ℕ) → kind_of plan x ≡ Some Stp →
      said_of plan u x ≡ map (λ item. PacketEvent (StpPacket item)) (given_items x lines)
  pub no_rest : (x : ℕ) (kind : SourceKind) → kind_of plan x ≡ Some kind →
      (tail_of (aligned plan) (port_of u) x kind).tail ≡ 0
  pub plain : (x : ℕ) → kind_of plan x ≡ None → All SaysBytes (said_of plan u x)
  pub bytes : (x : ℕ) → 1 ≤ x → x ≤ 126 → kind_of plan x ≡ None →
      flat_map bytes_in (said_of plan u x) ≡ given_bytes x lines
  pub silent : (x : ℕ) → has_line x lines ≡ false → part (Some x) (report_of plan u) ≡ []
  pub absent : (x : ℕ) → 1 ≤ x → has_line x lines ≡ false → source_list x (cells_of (port_of u)) ≡ []
  pub no_notice : part None (report_of plan u) ≡ []
