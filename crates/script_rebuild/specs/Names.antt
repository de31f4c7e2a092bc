-- Names of lower crates, for the files of this one.
pub use Rattle.dwt_packets.specs.Packet.{packet}
pub use Rattle.frame_writer.specs.Fronts.{all_but_last, sure}
pub use Rattle.frame_writer.specs.Written.{Tagged, joined}
pub use Rattle.itm_grammar.specs.Shortest.{short}
pub use Rattle.itm_grammar.specs.declared.packet.ItmPacket.TheVariants.{Hardware}
pub use Rattle.port_formatter.specs.Formatter.{Puts}
pub use Rattle.port_formatter.specs.FormatterLaws.{paid_room}
pub use Rattle.port_formatter.specs.Port.{Port, has_place, sure_of, written}
pub use Rattle.port_formatter.specs.Segments.{Segments, after_flush, no_segments, now_ended, with_bytes}
pub use Rattle.port_formatter.specs.declared.formatter.Formatter.{Formatter}
pub use Rattle.script_text.specs.Lines.{answer}
unfoldable pub use Rattle.script_text.specs.Lines.{line_of, line_of_words}
pub use Rattle.script_text.specs.Said.{IsSaid, IsSayable}
pub use Rattle.script_text.specs.VersionTwo.{as_one}
unfoldable pub use Rattle.script_text.specs.VersionTwo.{line2_of}
pub use Rattle.script_text.specs.declared.items.Item.{Item}
pub use Rattle.script_text.specs.declared.items.Item.TheVariants.{Dwt, Itm, Raw, Stp}
pub use Rattle.script_text.specs.declared.line_fault.LineFault.{LineFault}
pub use Rattle.script_text.specs.declared.line_fault.LineFault.TheVariants.{BadLine, LongLine, Unfit, Unrouted}
pub use Rattle.script_text.specs.declared.lines.Line.{Line}
pub use Rattle.script_text.specs.declared.lines.Line.TheVariants.{Nothing, Of}
pub use Rattle.script_text.specs.declared.version_two.Line2.{Line2}
pub use Rattle.script_text.specs.declared.version_two.Line2.TheVariants.{Flush, One, Trigger}
pub use Rattle.source_events.specs.Plan.{are_sound, kind_of}
pub use Rattle.source_events.specs.declared.plan.Plan.{Plan}
pub use Rattle.stp_encoder.specs.Bytes.{end_bytes, nibbles_after, odd_nibble, put_bytes}
unfoldable pub use Rattle.stp_encoder.specs.Bytes.{nibbles_for}
pub use Rattle.stp_encoder.specs.Fitting.{is_unfit}
pub use Rattle.stp_encoder.specs.Puts.{Put, items_in, unmarked}
pub use Rattle.stp_grammar.specs.declared.item.StpItem.{StpItem}
pub use Rattle.stp_grammar.specs.declared.packet.Order.{Order}
pub use Rattle.trace_funnel.specs.declared.turns.Turns.{Turns}
pub use Rattle.trace_stream.specs.Debt.{Debt, Paid, Pours, owing, with_debt}
pub use Rattle.trace_stream.specs.Served.{IsLawful, Meaning}
pub use Rattle.trace_stream.specs.Taken.{HasTaken}
pub use Rattle.trace_stream.specs.declared.action.TheConstants.{ACTION_ROOM}
pub use Rattle.trace_stream.specs.declared.limits.TheConstants.{GREATEST_CAPTURE}
pub use Rattle.trace_stream.specs.declared.outlet.TheConstants.{OUTLET_ROOM}
pub use Rattle.trace_values.specs.declared.limits.TheConstants.{COUNT_ROOM}
