-- Worked rows of captures and their rests.
use Rattle.std.specs.Prelude.{ℕ, List, [], ◌∷◌, take, drop, map, Option, option_map}
use Rattle.trace_values.specs.Hex.{hex}
use Rattle.resync_laws.specs.Names.{placed, Reason, port_reading, Aligned as InFrames, Bare, Event, What, Packet, Plan}
use Rattle.resync_laws.specs.Names.{sources_by, stop_in}
use Rattle.trace_values.specs.declared.reading_modes.PacketsMode.TheVariants.{Aligned}
use Rattle.stp_grammar.specs.declared.packet.Order.TheVariants.{Msn}
use Rattle.resync_grammars.specs.SourceRows as rows
use Rattle.resync_laws.specs.FromPoints.{items_among, from_points}
use Rattle.resync_laws.specs.Report.{points, whole_report, left_report}

-- source 1 sends ITM packets in frames; or STP packets in a capture without a formatter
abbrev pub itm_plan : Plan
itm_plan = record { frames = InFrames; packets = Aligned; itm = 1 ∷ []; stp = []; order = Msn }

abbrev pub stp_plan : Plan
stp_plan = record { frames = Bare; packets = Aligned; itm = []; stp = 1 ∷ []; order = Msn }

-- the bytes of a text of those rows
abbrev pub two_versions : List ℕ
two_versions = hex rows.two_versions

-- of events: the offset, the half, the source, and what it is
abbrev pub shown : List (Event Packet) → List (ℕ × ℕ × Option ℕ × What Packet)
shown es = map (λ e. (e.at, e.half, e.source, e.what)) es

-- the events of a capture, and those of what is left of it without its first bytes
abbrev pub whole : Plan → ℕ → List ℕ → List (ℕ × ℕ × Option ℕ × What Packet)
whole plan bytes capture = shown (whole_report plan (take bytes capture) (drop bytes capture))

abbrev pub left : Plan → ℕ → List ℕ → List (ℕ × ℕ × Option ℕ × What Packet)
left plan bytes capture = shown (left_report plan (take bytes capture) (drop bytes capture))

-- those of the whole from each source's point on
abbrev pub from : Plan → ℕ → List ℕ → List (ℕ × ℕ × Option ℕ × What Packet)
from plan bytes capture =
    let lost = take bytes capture in let rest = drop bytes capture in
    shown (from_points (points plan lost rest) (items_among (whole_report plan lost rest)))

-- those of the whole from the port's own point on, which is that of each source that is not mapped
abbrev pub from_port : Plan → ℕ → List ℕ → List (ℕ × ℕ × Option ℕ × What Packet)
from_port plan bytes capture =
    let lost = take bytes capture in let rest = drop bytes capture in
    shown (from_points (λ x. points plan lost rest 0) (items_among (whole_report plan lost rest)))

-- the offset and the reason of the fault of what is left where it is read as the whole is, at offsets from 0 on
abbrev pub stop_of : Plan → ℕ → List ℕ → Option (ℕ × Reason)
stop_of plan bytes capture =
    let reading = port_reading plan.frames (placed (drop bytes capture)) in
    option_map (λ f. (f.0.at, f.1.0)) (stop_in (sources_by plan) reading)
