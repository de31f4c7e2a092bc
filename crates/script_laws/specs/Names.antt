-- Names of lower crates, for the files of this one.
pub use Rattle.decimal_words.specs.Numbers.{number_named, text_after}
pub use Rattle.deformatter.specs.PortReading.{PortReading, cells_of, port_reading}
pub use Rattle.dwt_packets.specs.Packet.{IsInRange, packet}
pub use Rattle.dwt_packets.specs.declared.item.Change.TheVariants.{Enter}
pub use Rattle.dwt_packets.specs.declared.item.DwtItem.{DwtItem}
pub use Rattle.frame_grammar.specs.Reading.{is_source, source_list}
pub use Rattle.frame_writer.specs.ReadBack.{IsOfSource, ReadsBack, as_seen, seen, source_cells}
pub use Rattle.frame_writer.specs.Written.{Tagged, joined, written_segments}
pub use Rattle.itm_codec.specs.Reading.{packets_in}
pub use Rattle.itm_grammar.specs.Proper.{IsProper, first_bits, second_bits}
pub use Rattle.itm_grammar.specs.Shortest.{short}
pub use Rattle.itm_grammar.specs.declared.packet.ItmPacket.{ItmPacket}
pub use Rattle.itm_grammar.specs.declared.packet.Size.TheVariants.{Four, Two}
pub use Rattle.port_formatter.specs.Passed.{act_by, all_passed, from_funnel, passed_from, to_funnel, whole_acts}
pub use Rattle.script_rebuild.specs.Rebuilt.{capture_of, ending, routed_script, text}
pub use Rattle.script_rebuild.specs.Routed.{are_placed, are_routed, is_routed}
pub use Rattle.script_rebuild.specs.RoutedLaws.{all_placed, placed_front}
pub use Rattle.script_rebuild.specs.Script.{by_item, bytes_by, ends_with, given_bytes, given_items, given_packets}
pub use Rattle.script_rebuild.specs.Script.{given_puts, item_bytes, items_by, items_of, packets_by, packets_of, puts_by}
pub use Rattle.script_rebuild.specs.Script.{raw_of, tagged}
unfoldable pub use Rattle.script_rebuild.specs.Script.{in_order}
pub use Rattle.script_rebuild.specs.Segments.{line_bytes, script_segments, segments_of}
pub use Rattle.script_rebuild.specs.Versions.{Reading, fitting, fitting_item, fitting_one, header, lines_in, read_in}
pub use Rattle.script_rebuild.specs.Versions.{read_on, read_texts, says, says_one, script_of, version_after}
pub use Rattle.script_rebuild.specs.Versions.{version_then}
pub use Rattle.script_rebuild.specs.declared.plan.RebuildPlan.{RebuildPlan}
pub use Rattle.script_rebuild.specs.declared.version.Version.{Version}
pub use Rattle.script_rebuild.specs.declared.version.Version.TheVariants.{First, Second, Unknown}
pub use Rattle.script_text.specs.Bytes.{bytes_named, decoded}
pub use Rattle.script_text.specs.Items.{item_of}
unfoldable pub use Rattle.script_text.specs.Items.{dwt_of, itm_of, stp_of}
pub use Rattle.script_text.specs.Lines.{is_nothing, taken_by}
unfoldable pub use Rattle.script_text.specs.Lines.{line_of, line_of_words}
pub use Rattle.script_text.specs.Numbers.{hexadecimal_at}
unfoldable pub use Rattle.script_text.specs.Numbers.{hexadecimal_named}
pub use Rattle.script_text.specs.Said.{IsSaid, IsSaidItm, IsSaidStp, IsSayable, text_of}
pub use Rattle.script_text.specs.Shapes.{fields_of, first_fitting, fits, plain, shapes_named}
unfoldable pub use Rattle.script_text.specs.Shapes.{shape_named}
pub use Rattle.script_text.specs.Stamps.{size_with, stamp_named, time_named}
unfoldable pub use Rattle.script_text.specs.Stamps.{raw_named}
pub use Rattle.script_text.specs.Table.{AllFit, Bytes, Digits, Field, Fits, Kind, Known, Row, Says, Time, Upto, Value}
pub use Rattle.script_text.specs.Table.{Values, Word, dwt_row, fields_in, is_first, itm_row, made_in, null_stamp}
pub use Rattle.script_text.specs.Table.{raw_row, row, said_in, size_word, stp_row, unnamed, value_of, values_at}
pub use Rattle.script_text.specs.Table.{word_in, words_with}
pub use Rattle.script_text.specs.VersionTwo.{IsSaid2, as_one, flush_line, is_trigger}
unfoldable pub use Rattle.script_text.specs.VersionTwo.{line2_of, trigger_said}
pub use Rattle.script_text.specs.Words.{are_printable, are_words, is_word, word_of, words_in}
pub use Rattle.script_text.specs.declared.dwt_shapes.DwtShape.{DwtShape}
pub use Rattle.script_text.specs.declared.items.Item.{Item}
pub use Rattle.script_text.specs.declared.items.Item.TheVariants.{Dwt, Itm, Raw, Stp}
pub use Rattle.script_text.specs.declared.itm_shapes.ItmShape.{ItmShape}
pub use Rattle.script_text.specs.declared.line_fault.LineFault.{LineFault}
pub use Rattle.script_text.specs.declared.line_fault.LineFault.TheVariants.{BadId, BadLine, BadNumber, LongLine, Mixed}
pub use Rattle.script_text.specs.declared.line_fault.LineFault.TheVariants.{Unfit}
pub use Rattle.script_text.specs.declared.lines.Line.{Line}
pub use Rattle.script_text.specs.declared.lines.Line.TheVariants.{Nothing, Of}
pub use Rattle.script_text.specs.declared.shapes.Shape.{Shape}
pub use Rattle.script_text.specs.declared.stp_shapes.StpShape.{StpShape}
pub use Rattle.script_text.specs.declared.version_two.Line2.{Line2}
pub use Rattle.script_text.specs.declared.version_two.Line2.TheVariants.{Flush, One, Trigger}
pub use Rattle.source_events.specs.Merge.{IsMerged, cut, part, told}
pub use Rattle.source_events.specs.Plan.{are_sound, is_sound, kind_of, sources_by, stream_of}
pub use Rattle.source_events.specs.Report.{Mapped, capture_events, events, given_in, least_fault, lesser, lifted}
pub use Rattle.source_events.specs.Report.{of_source, raw_events, raws, report, runs_in, stop_in, triggers, what_of}
pub use Rattle.source_events.specs.Runs.{bytes_of, id_of, last_at, list_of, placed_run}
pub use Rattle.source_events.specs.Tails.{tail_of}
pub use Rattle.source_events.specs.declared.event.Event.{Event}
pub use Rattle.source_events.specs.declared.event.What.{What}
pub use Rattle.source_events.specs.declared.event.What.TheVariants.{Locked}
pub use Rattle.source_events.specs.declared.packet.Packet.{Packet}
pub use Rattle.source_events.specs.declared.plan.Plan.{Plan}
pub use Rattle.source_events.specs.declared.plan.SourceKind.{SourceKind}
pub use Rattle.stp_encoder.specs.Bytes.{encoded, end_bytes, nibbles_after, written}
unfoldable pub use Rattle.stp_encoder.specs.Bytes.{nibbles_for}
pub use Rattle.stp_encoder.specs.Fitting.{AreFitting, is_unfit}
unfoldable pub use Rattle.stp_encoder.specs.Packets.{packets_for}
pub use Rattle.stp_grammar.specs.Proper.{IsProperItem, IsProperStamp, bits_of}
pub use Rattle.stp_grammar.specs.declared.item.Stamp.{Stamp}
pub use Rattle.stp_grammar.specs.declared.item.Stamp.TheVariants.{Gray, Natural}
pub use Rattle.stp_grammar.specs.declared.item.StpItem.{StpItem}
pub use Rattle.stp_grammar.specs.declared.packet.Width.TheVariants.{Eight, Sixteen, SixtyFour, ThirtyTwo}
pub use Rattle.trace_clock.specs.LastWord.{WordFits, nibble_at, nibble_count}
pub use Rattle.trace_funnel.specs.Acts.{Act, Drain, Offer, Turn, are_of, offered, offers}
pub use Rattle.trace_funnel.specs.Kept.{bytes_for}
pub use Rattle.trace_funnel.specs.Order.{are_apart}
pub use Rattle.trace_funnel.specs.declared.turns.Turns.{Turns}
pub use Rattle.trace_text.specs.HardwareText.{hardware_text}
unfoldable pub use Rattle.trace_text.specs.HexDigits.{hex_digits}
pub use Rattle.trace_text.specs.StpText.{known_text, mark_text, place_text, stamp_text, stp_text}
pub use Rattle.trace_text.specs.StpText.{width_text}
pub use Rattle.trace_values.specs.Placed.{Place, Placed, placed, units_of}
pub use Rattle.trace_values.specs.Stream.{Kept, Said, kept}
pub use Rattle.trace_values.specs.declared.cell.Cell.{Cell}
pub use Rattle.trace_values.specs.declared.reading_modes.FramesMode.TheVariants.{Aligned}
