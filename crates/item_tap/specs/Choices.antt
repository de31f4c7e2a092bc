-- Which events a choice holds for, and a list of choices.
use Rattle.std.specs.Prelude.{ℕ, Bool, true, false, List, Option, None, Some, ◌==◌}
use Rattle.std.specs.List.{list_any}
use Rattle.std.specs.Option.{option_map_or}
use Rattle.dwt_packets.specs.declared.item.DwtItem.{DwtItem}
use Rattle.dwt_packets.specs.declared.item.DwtItem.TheVariants.{MatchPc, MatchAddress, Read, Written}
use Rattle.dwt_packets.specs.Table.{name}
use Rattle.itm_grammar.specs.declared.packet.ItmPacket.{ItmPacket}
use Rattle.itm_grammar.specs.declared.packet.ItmPacket.TheVariants.{Software, Hardware, Local, GlobalFirst}
use Rattle.itm_grammar.specs.declared.packet.ItmPacket.TheVariants.{GlobalSecond}
use Rattle.source_events.specs.declared.event.Event.{Event}
use Rattle.source_events.specs.declared.event.What.{What}
use Rattle.source_events.specs.declared.event.What.TheVariants.{Locked, Packet as Given, Raw as Bytes}
use Rattle.source_events.specs.declared.event.What.TheVariants.{Trigger as TriggerByte}
use Rattle.source_events.specs.declared.packet.Packet.{Packet}
use Rattle.source_events.specs.declared.packet.Packet.TheVariants.{Itm as ItmKind, Stp as StpKind}
use Rattle.source_events.specs.Merge.{is_of}
use Rattle.item_tap.specs.declared.choice.Choice.{Choice}
use Rattle.item_tap.specs.declared.choice.Choice.TheVariants.{OfKind, Source, Port, Comparator, Time}
use Rattle.item_tap.specs.declared.choice.Kind.{Kind}
use Rattle.item_tap.specs.declared.choice.Kind.TheVariants.{Itm, Dwt, Stp, Raw, Trigger}
use Rattle.item_tap.specs.declared.content.Content.{Content}
use Rattle.item_tap.specs.declared.content.Content.TheVariants.{Notice, Itm as OfItm, Stp as OfStp, Raw as OfRaw}
use Rattle.item_tap.specs.declared.content.Content.TheVariants.{Trigger as OfTrigger}

-- what choices see of what an event tells
abbrev pub content_of : What Packet → Content
content_of (Locked skipped) = Notice
content_of (Given (ItmKind packet)) = OfItm packet
content_of (Given (StpKind item)) = OfStp
content_of (Bytes bytes) = OfRaw
content_of (TriggerByte byte) = OfTrigger

-- a local or a global timestamp (ARMv7-M Architecture Reference Manual, Arm DDI 0403E, appendix D4 'Debug ITM and DWT
-- Packet Protocol', section D4.2 'Packet descriptions')
abbrev pub is_stamp : ItmPacket → Bool
is_stamp (Local lateness delta) = true
is_stamp (GlobalFirst len value change wrap) = true
is_stamp (GlobalSecond wide value) = true
is_stamp packet = false

-- What is of a kind: hardware source packets, which an ITM sends for a DWT unit (the same section), are of the DWT, and
-- all other packets of an ITM source of the ITM. A notice of a lock is of no kind.
abbrev pub is_of_kind : Kind → Content → Bool
is_of_kind Itm (OfItm (Hardware disc size value)) = false
is_of_kind Itm (OfItm packet) = true
is_of_kind Dwt (OfItm (Hardware disc size value)) = true
is_of_kind Stp OfStp = true
is_of_kind Raw OfRaw = true
is_of_kind Trigger OfTrigger = true
is_of_kind kind content = false

-- the comparator whose match an item of the DWT tells
abbrev pub comparator_of : DwtItem → Option ℕ
comparator_of (MatchPc comparator pc) = Some comparator
comparator_of (MatchAddress comparator low) = Some comparator
comparator_of (Read comparator size value) = Some comparator
comparator_of (Written comparator size value) = Some comparator
comparator_of item = None

-- The choice holds for what this source gives, or the port: what is of a kind; what a source of this ID gives, but no
-- notice of its lock; what software wrote to this stimulus port; the data, the address or the PC of a match of this
-- comparator; or a timestamp of an ITM source.
abbrev pub holds_in : Choice → Option ℕ → Content → Bool
holds_in (OfKind kind) source content = is_of_kind kind content
holds_in (Source x) source Notice = false
holds_in (Source x) source content = is_of (Some x) source
holds_in (Port n) source (OfItm (Software port size value)) = port == n
holds_in (Comparator n) source (OfItm (Hardware disc size value)) =
    option_map_or (λ comparator. comparator == n) (comparator_of (name disc size value)) false
holds_in Time source (OfItm packet) = is_stamp packet
holds_in choice source content = false

-- one of these choices does
abbrev pub holds_any_in : List Choice → Option ℕ → Content → Bool
holds_any_in choices source content = list_any (λ choice. holds_in choice source content) choices

-- the choice holds for the event, and one of these choices does
abbrev pub holds : Choice → Event Packet → Bool
holds choice e = holds_in choice e.source (content_of e.what)

abbrev pub holds_any : List Choice → Event Packet → Bool
holds_any choices e = list_any (λ choice. holds choice e) choices
