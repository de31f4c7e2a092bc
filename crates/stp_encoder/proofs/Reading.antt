-- The shortest nibbles of packets, one after the other, read as these packets.
use Rattle.std.proofs.Common.{◌≡◌, List, ◌++◌, map}
use Rattle.stp_encoder.specs.Names.{Placed, units_of, progress_from, Order, StpPacket, short}
use Rattle.trace_values.specs.Placed.{Place}
use Rattle.trace_values.specs.Walk.{by_unit}
use Rattle.trace_values.proofs.Sequences.{all_read, plain}
use Rattle.stp_grammar.specs.declared.partial.Partial.TheVariants.{Start}
use Rattle.stp_grammar.specs.Rule.{rule}
use Rattle.stp_grammar.proofs.Deciding.{decided}
use Rattle.stp_grammar.proofs.ShortSpellings.{shortest}
use Rattle.stp_encoder.specs.Bytes.{spelled}
use Rattle.stp_encoder.proofs.Wholes.{AreWhole}

pub reads_packets : (order : Order) (packets : List StpPacket) → AreWhole packets → (u : List Placed) → units_of u ≡ spelled order packets → (items : List (StpPacket × Place)) →
    (more : List (StpPacket × Place)) × (map (λ (x : StpPacket × Place). x.0) more ≡ packets)
    × (progress_from (by_unit (rule order)) Start (plain (rule order) Start (short order) items) u ≡ plain (rule order) Start (short order) (items ++ more))
reads_packets order =
    all_read (rule order) Start (short order) AreWhole
    (λ p packets h. ((decided order).complete p (short order p) (shortest order p h.0.proper h.0.by_row).spells, h.1))
