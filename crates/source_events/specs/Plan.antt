-- What a plan maps, and what each mapped source's bytes read as.
use Rattle.std.specs.Prelude.{ℕ, List, [], ◌∷◌, ◌++◌, Bool, true, false, ◌==◌, ◌&&◌, nat_le, not, map, if◌then◌else◌}
use Rattle.std.specs.List.{list_any}
use Rattle.std.specs.Prelude.{Option, None, Some}
use Rattle.trace_values.specs.Placed.{Placed}
use Rattle.trace_values.specs.Stream.{Stream}
use Rattle.trace_values.specs.ReadingModes.{packets_hunt}
use Rattle.itm_codec.specs.Reading.{packets_in}
use Rattle.stp_codec.specs.Reading.{items_in}
use Rattle.source_events.specs.declared.packet.Packet.{Packet}
use Rattle.source_events.specs.declared.packet.Packet.TheVariants.{Itm as ItmPacket, Stp as StpPacket}
use Rattle.source_events.specs.declared.plan.Plan.{Plan}
use Rattle.source_events.specs.declared.plan.SourceKind.{SourceKind}
use Rattle.source_events.specs.declared.plan.SourceKind.TheVariants.{Itm, Stp}
use Rattle.source_events.specs.Packets.{stream_as}
use Rattle.source_events.specs.Report.{Mapped}

-- the mapped sources, each with what it sends
abbrev pub mapped_ids : Plan → List (ℕ × SourceKind)
mapped_ids plan = map (λ x. (x, Itm)) plan.itm ++ map (λ x. (x, Stp)) plan.stp

-- what the bytes of a source that sends this read as
abbrev pub stream_of : Plan → SourceKind → List Placed → Stream Packet
stream_of plan Itm u = stream_as ItmPacket (packets_in (packets_hunt plan.packets) u)
stream_of plan Stp u = stream_as StpPacket (items_in plan.order (packets_hunt plan.packets) u)

-- what a source sends, if it is mapped
abbrev pub kind_of : Plan → ℕ → Option SourceKind
kind_of plan x =
    if list_any (λ y. y == x) plan.itm then Some Itm else if list_any (λ y. y == x) plan.stp then Some Stp else None

-- the same of each mapped source
abbrev pub sources_by : Plan → List (Mapped Packet)
sources_by plan = map (λ s. record { id = s.0; stream = stream_of plan s.1 }) (mapped_ids plan)

-- none of these is twice there, and all are from 1 to 111
abbrev pub are_sound : List ℕ → Bool
are_sound [] = true
are_sound (x ∷ xs) = nat_le 1 x && nat_le x 111 && not (list_any (λ y. y == x) xs) && are_sound xs

-- a plan is sound where this holds of all its mapped IDs
abbrev pub is_sound : Plan → Bool
is_sound plan = are_sound (plan.itm ++ plan.stp)
