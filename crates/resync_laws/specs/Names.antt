-- Names of lower crates, for the files of this one.
pub use Rattle.deformatter.specs.PortReading.{PortReading, bare, bare_cell, cells_of, framed, frames_of_items}
pub use Rattle.deformatter.specs.PortReading.{port_reading}
pub use Rattle.deformatter.specs.Reading.{PortStream, port_stream}
pub use Rattle.deformatter.specs.Rising.{BytesRise}
pub use Rattle.frame_grammar.specs.Frame.{cell, cells, cells_below, even_cells, even_data, id_after, names}
pub use Rattle.frame_grammar.specs.Port.{Frame, Full, Half, PortItem, Spells, rule, start, why}
pub use Rattle.frame_grammar.specs.Reading.{halves_in, id_of_items, is_source, offsets_of}
pub use Rattle.frame_grammar.specs.SourceBytes.{source_units}
pub use Rattle.itm_codec.specs.Reading.{packets_in}
pub use Rattle.itm_grammar.specs.declared.packet.ItmPacket.TheVariants.{Software, Sync}
pub use Rattle.resync_grammars.specs.Capture.{source_bytes}
pub use Rattle.resync_grammars.specs.Port.{AreNamedLater, BeginsNamed, IsFramedRest, IsPortRest, PortLocks, rest_mode}
pub use Rattle.resync_grammars.specs.Port.{unnamed}
pub use Rattle.resync_grammars.specs.Stp.{IsItemsRest, hunting}
pub use Rattle.resync_rules.specs.Fronts.{Hunting, IsFirstSync, IsRest, IsSync}
pub use Rattle.resync_rules.specs.Moved.{later, later_fault, later_place, later_stream}
pub use Rattle.resync_rules.specs.Points.{AllFrom, Between, Follows, FollowsFrom, IsRising, from_point, is_from}
pub use Rattle.resync_rules.specs.Points.{items_of, key, point_in, point_of}
pub use Rattle.source_events.specs.Merge.{AllIn, IsAtMost, cut, grown, is_of, merged_from, of_sources, part, place_of}
pub use Rattle.source_events.specs.Merge.{start_of, told}
pub use Rattle.source_events.specs.Packets.{given_as, said_as, stream_as}
pub use Rattle.source_events.specs.Plan.{kind_of, mapped_ids, sources_by, stream_of}
pub use Rattle.source_events.specs.Report.{AreLawful, IsLawful, Mapped, all_events, capture_events, events, is_item}
pub use Rattle.source_events.specs.Report.{least_fault, lesser, lifted, lock_at, of_source, port_events, raw_events}
pub use Rattle.source_events.specs.Report.{raws, report, runs_in, stop_in, triggers, what_of}
pub use Rattle.source_events.specs.Runs.{IsRunFrom, all_runs, bytes_of, end_of, id_of, joined, last_at, list_of}
pub use Rattle.source_events.specs.Runs.{placed_run, runs_of}
pub use Rattle.source_events.specs.declared.event.Event.{Event}
pub use Rattle.source_events.specs.declared.event.What.{What}
pub use Rattle.source_events.specs.declared.event.What.TheVariants.{Raw, Trigger}
pub use Rattle.source_events.specs.declared.packet.Packet.{Packet}
pub use Rattle.source_events.specs.declared.plan.Plan.{Plan}
pub use Rattle.source_events.specs.declared.plan.SourceKind.{SourceKind}
pub use Rattle.source_events.specs.declared.plan.SourceKind.TheVariants.{Itm, Stp}
pub use Rattle.stp_codec.specs.Reading.{items_at, items_in}
pub use Rattle.stp_grammar.specs.declared.item.Stamp.TheVariants.{None}
pub use Rattle.stp_grammar.specs.declared.item.StpItem.{StpItem}
pub use Rattle.stp_grammar.specs.declared.item.StpItem.TheVariants.{Async, Datum, Version}
pub use Rattle.trace_values.specs.Decorated.{decorated}
pub use Rattle.trace_values.specs.Nibbles.{nibbles_of}
pub use Rattle.trace_values.specs.Placed.{Place, Placed, byte_at, placed, placed_from, units_of}
pub use Rattle.trace_values.specs.Reading.{Progress, Splits, progress}
pub use Rattle.trace_values.specs.ReadingModes.{packets_hunt}
pub use Rattle.trace_values.specs.Stream.{AllAt, Kept, Notice, Rises, Said, Stream, kept}
pub use Rattle.trace_values.specs.declared.cell.Cell.{Cell}
pub use Rattle.trace_values.specs.declared.fault.Reason.{Reason}
pub use Rattle.trace_values.specs.declared.fault.Reason.TheVariants.{BadSync, SyncInFrame}
pub use Rattle.trace_values.specs.declared.next.Next.{Next}
pub use Rattle.trace_values.specs.declared.reading_modes.FramesMode.{FramesMode}
pub use Rattle.trace_values.specs.declared.reading_modes.FramesMode.TheVariants.{Aligned, Bare, Hunt}
