-- What a plan maps, where the front of a capture is lost.
use Rattle.std.specs.Prelude.{ℕ, List, map, Bool, true, false}
use Rattle.resync_laws.specs.Names.{Placed, nibbles_of, packets_hunt, packets_in, StpItem, Version, items_at, Packet}
use Rattle.resync_laws.specs.Names.{Plan, SourceKind, Itm, Stp, stream_as, mapped_ids, IsRest, IsItemsRest, point_of}
use Rattle.source_events.specs.declared.packet.Packet.TheVariants.{Itm as ItmPacket, Stp as StpPacket}
use Rattle.resync_grammars.specs.Itm as itm
use Rattle.resync_rules.proofs.ItemTerms.{first_item}
use Rattle.resync_laws.specs.Resumed.{Resumed}

-- the item of a VERSION
abbrev pub is_version_item : StpItem → Bool
is_version_item (Version version) = true
is_version_item item = false

abbrev pub is_version : Packet → Bool
is_version (StpPacket (Version version)) = true
is_version packet = false

-- a mapped source in a whole capture and in its rest
abbrev pub resumed_by : Plan → ℕ × SourceKind → Resumed SourceKind Packet
resumed_by plan (id, Itm) = record {
  id = id;
  kind = Itm;
  units = λ u. u;
  whole = λ u. stream_as ItmPacket (packets_in (packets_hunt plan.packets) u);
  rest = λ u. stream_as ItmPacket (packets_in true u);
  point = λ s. point_of s;
}
resumed_by plan (id, Stp) = record {
  id = id;
  kind = Stp;
  units = nibbles_of;
  whole = λ n. stream_as StpPacket (items_at plan.order (packets_hunt plan.packets) n);
  rest = λ n. stream_as StpPacket (items_at plan.order true n);
  point = λ s. first_item is_version s.given;
}

abbrev pub sources_of : Plan → List (Resumed SourceKind Packet)
sources_of plan = map (λ s. resumed_by plan s) (mapped_ids plan)

-- what the units of a source of each kind read as in the rest
abbrev pub unit_reads : Plan → SourceKind → List Placed → List Placed → Type 0
unit_reads plan Itm early rest = IsRest (itm.hunting (packets_hunt plan.packets)) early rest
unit_reads plan Stp early rest = IsItemsRest plan.order (packets_hunt plan.packets) early rest
