-- Names of lower crates, for the files of this one.
pub use Rattle.itm_codec.specs.Decoder.{is_hunter}
pub use Rattle.itm_codec.specs.Reading.{packets_in, pattern}
pub use Rattle.itm_codec.specs.declared.decoder.ItmDecoder.{ItmDecoder}
pub use Rattle.itm_grammar.specs.Rule.{count_of, rule}
pub use Rattle.itm_grammar.specs.declared.packet.ItmPacket.{ItmPacket}
pub use Rattle.itm_grammar.specs.declared.packet.ItmPacket.TheVariants.{Sync}
pub use Rattle.itm_grammar.specs.declared.partial.Partial.TheVariants.{Header}
pub use Rattle.source_events.specs.Fitting.{PacketFits}
pub use Rattle.source_events.specs.Packets.{given_as, stream_as}
pub use Rattle.source_events.specs.declared.packet.Packet.{Packet}
pub use Rattle.source_events.specs.declared.packet.Packet.TheVariants.{Itm, Stp}
pub use Rattle.source_events.specs.declared.plan.SourceKind.{SourceKind}
pub use Rattle.stp_codec.specs.Decoder.{FinishesParts, order_of}
pub use Rattle.stp_codec.specs.Nibbles.{TakesNibbles, before_by, nibbles_after, nibbles_from, taken_by}
pub use Rattle.stp_codec.specs.Reading.{items_at, items_in}
pub use Rattle.stp_codec.specs.declared.decoder.StpDecoder.{StpDecoder}
pub use Rattle.stp_grammar.specs.Attribution.{attribute}
pub use Rattle.stp_grammar.specs.declared.item.StpItem.{StpItem}
pub use Rattle.stp_grammar.specs.declared.packet.Order.{Order}
pub use Rattle.stp_grammar.specs.declared.packet.StpPacket.TheVariants.{Async}
pub use Rattle.stp_grammar.specs.declared.partial.Partial.TheVariants.{Start}
pub use Rattle.trace_values.specs.Nibbles.{high_of, low_of}
pub use Rattle.trace_values.specs.Placed.{Placed, byte_at, units_of}
pub use Rattle.trace_values.specs.ReadingModes.{packets_hunt}
pub use Rattle.trace_values.specs.Stream.{Grows, HasRoom, Holds, HuntBy, Rises, Settled, Shows, Stream}
pub use Rattle.trace_values.specs.Stream.{Tells, fault_by, given_by}
pub use Rattle.trace_values.specs.Taking.{Passes, TakesNone, item_at}
pub use Rattle.trace_values.specs.Walk.{by_unit}
pub use Rattle.trace_values.specs.declared.limits.TheConstants.{COUNT_ROOM}
pub use Rattle.trace_values.specs.declared.reading_modes.PacketsMode.{PacketsMode}
pub use Rattle.trace_values.specs.declared.step.Step.{Step}
pub use Rattle.trace_values.specs.declared.step.Step.TheVariants.{Fault, Item, Locked, Quiet, Skipping}
