-- What `text` writes: the values that software wrote to one stimulus port of an ITM source.
use Rattle.std.specs.Prelude.{ℕ, List, [], flat_map, Option, slice_get, ◌==◌, if◌then◌else◌, false}
use Rattle.itm_grammar.specs.declared.packet.ItmPacket.TheVariants.{Software}
use Rattle.itm_grammar.specs.Shortest.{bytes_of}
use Rattle.itm_grammar.specs.Spelling.{byte_count}
use Rattle.capture_actions.specs.Names.{placed, Meaning, ItmPacket, Event, What, Packet, Itm, Plan, report_of}
use Rattle.source_events.specs.declared.event.What.TheVariants.{Packet as Said}
use Rattle.capture_actions.specs.declared.port_text_plan.PortTextPlan.{PortTextPlan}
use Rattle.capture_actions.specs.Faulty.{IsFaulty}
use Rattle.capture_actions.specs.Listing.{itm_packets}

-- the source whose packets are looked at: the first that sends ITM packets
abbrev pub source_of : Plan → Option ℕ
source_of plan = slice_get plan.itm 0

-- the value that software wrote to this port by a packet: the least byte first, in as many bytes as its size says
abbrev pub value_of : ℕ → ItmPacket → List ℕ
value_of port (Software written size value) = if written == port then bytes_of (byte_count size) value else []
value_of port packet = []

-- that of an event, whatever its port
abbrev pub written_by : What Packet → List ℕ
written_by (Said (Itm (Software port size value))) = bytes_of (byte_count size) value
written_by what = []

-- the values of a source's packets to this port among some events, in order
abbrev pub values_in : Option ℕ → ℕ → List (Event Packet) → List ℕ
values_in source port es = flat_map (value_of port) (itm_packets source es)

-- those in the report of a capture
abbrev pub port_text : PortTextPlan → List ℕ → List ℕ
port_text p bytes = values_in (source_of p.plan) p.port (report_of p.plan (placed bytes))

-- all that `text` makes of the bytes of a capture; nothing comes after the text
abbrev pub port_text_meaning : PortTextPlan → Meaning
port_text_meaning p =
    record { faulty = IsFaulty p.plan; text = port_text p; ending = λ bytes. []; due = false }
