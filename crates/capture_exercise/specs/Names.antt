-- Names of lower crates, for the files of this one.
pub use Rattle.capture_actions.specs.Summary.{summary}
unfoldable pub use Rattle.frame_writer.specs.Written.{frames_by}
pub use Rattle.port_formatter.specs.Port.{Port, written}
pub use Rattle.port_formatter.specs.declared.straight.TheConstants.{KEPT_ROOM}
pub use Rattle.script_rebuild.specs.Script.{by_item, given_items, items_by}
unfoldable pub use Rattle.script_rebuild.specs.Script.{in_order}
pub use Rattle.script_rebuild.specs.Segments.{script_segments, segments_with_ends, sure_lines}
pub use Rattle.script_rebuild.specs.Versions.{fitting}
pub use Rattle.script_rebuild.specs.Writer.{CanBePut2}
pub use Rattle.script_text.specs.declared.line_fault.LineFault.{LineFault}
pub use Rattle.script_text.specs.declared.lines.Line.TheVariants.{Of}
pub use Rattle.script_text.specs.declared.version_two.Line2.{Line2}
pub use Rattle.script_text.specs.declared.version_two.Line2.TheVariants.{One}
pub use Rattle.source_events.specs.Plan.{is_sound}
pub use Rattle.stp_grammar.specs.declared.item.Stamp.TheVariants.{Natural}
pub use Rattle.stp_grammar.specs.declared.item.StpItem.TheVariants.{Async, Datum, Version}
pub use Rattle.stp_grammar.specs.declared.packet.Order.TheVariants.{Msn}
pub use Rattle.stp_grammar.specs.declared.packet.Width.TheVariants.{Sixteen}
pub use Rattle.trace_io.specs.Bytes.{AppendsPrefix, TakesFront}
pub use Rattle.trace_io.specs.Causes.{CountsEmpty, HasCause, faults_after}
pub use Rattle.trace_stream.specs.Served.{IsLawful, Meaning}
pub use Rattle.trace_vectors.specs.Items.{IsProperMade, byte_item, itm_packet, place, stp_item}
unfoldable pub use Rattle.trace_vectors.specs.Items.{item_of}
pub use Rattle.trace_vectors.specs.declared.made.Made.{Made}
pub use Rattle.trace_vectors.specs.declared.made.Made.TheVariants.{Itm, Raw, Stp}
