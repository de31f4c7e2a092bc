-- Names of lower crates, for the files of this one.
pub use Rattle.deformatter.specs.PortReading.{PortReading, bare_cell, cells_of, port_reading}
pub use Rattle.deformatter.specs.Reading.{PortStream, all_skipped, cells_in, items_of, port_hunted, port_stream}
pub use Rattle.deformatter.specs.Reading.{read_after}
pub use Rattle.frame_grammar.specs.Frame.{aux_bit, cell, cells, data_at, data_indexes, id_after, id_below, in_effect}
pub use Rattle.frame_grammar.specs.Frame.{names, run_at}
pub use Rattle.frame_grammar.specs.Port.{Frame, Full, Half, IsWords, PortItem, Spells, State, rule, start, why}
pub use Rattle.frame_grammar.specs.Reading.{cells_of_items, halves_in, id_of_items, offsets_of}
pub use Rattle.frame_grammar.specs.SourceBytes.{source_units}
pub use Rattle.itm_codec.specs.Reading.{packets_in}
pub use Rattle.itm_grammar.specs.declared.packet.ItmPacket.{ItmPacket}
pub use Rattle.itm_grammar.specs.declared.packet.ItmPacket.TheVariants.{Overflow, Software, Sync}
pub use Rattle.itm_grammar.specs.declared.packet.Size.TheVariants.{Four, One, Two}
pub use Rattle.itm_grammar.specs.declared.partial.Partial.TheVariants.{Header, Payload, Zeros}
pub use Rattle.port_sync.specs.Hunting.{pattern}
pub use Rattle.resync_rules.specs.Fronts.{BeginsAt, BeginsOnly, BeginsWith, EndsOnly, Hunting, IsRest, IsRestInWords}
pub use Rattle.resync_rules.specs.Fronts.{Locks}
pub use Rattle.resync_rules.specs.Syncing.{EndsOrFails, Syncs, said_last}
pub use Rattle.stp_codec.specs.Reading.{items_at, items_in}
pub use Rattle.stp_grammar.specs.Attribution.{attribute, item_of, item_with, place_of, version_in}
pub use Rattle.stp_grammar.specs.Opcodes.{line_of}
pub use Rattle.stp_grammar.specs.declared.item.Stamp.TheVariants.{None}
pub use Rattle.stp_grammar.specs.declared.item.StpItem.{StpItem}
pub use Rattle.stp_grammar.specs.declared.item.StpItem.TheVariants.{Datum}
pub use Rattle.stp_grammar.specs.declared.packet.Order.{Order}
pub use Rattle.stp_grammar.specs.declared.packet.Order.TheVariants.{Msn}
pub use Rattle.stp_grammar.specs.declared.packet.Row.{Row}
pub use Rattle.stp_grammar.specs.declared.packet.Row.TheVariants.{Version}
pub use Rattle.stp_grammar.specs.declared.packet.StpPacket.{StpPacket}
pub use Rattle.stp_grammar.specs.declared.packet.StpPacket.TheVariants.{Async, Plain, Stamped}
pub use Rattle.stp_grammar.specs.declared.packet.Width.TheVariants.{Eight, SixtyFour}
pub use Rattle.stp_grammar.specs.declared.partial.Partial.TheVariants.{Start}
pub use Rattle.trace_clock.specs.LastWord.{last_word, nibble_count}
pub use Rattle.trace_values.specs.Cells.{source_id}
pub use Rattle.trace_values.specs.Decorated.{carried, decorate, decorated, kept_if}
pub use Rattle.trace_values.specs.Grammar.{InUnits}
pub use Rattle.trace_values.specs.Hex.{hex}
pub use Rattle.trace_values.specs.Hunt.{EndsWith, IsAfter}
pub use Rattle.trace_values.specs.Hunted.{Found, hunt, pattern_of}
pub use Rattle.trace_values.specs.Nibbles.{nibbles_of}
pub use Rattle.trace_values.specs.Placed.{Place, Placed, placed, units_of}
pub use Rattle.trace_values.specs.Reading.{IsReading, Progress, Reading, Splits, progress, progress_from, reading}
pub use Rattle.trace_values.specs.Reading.{unread}
pub use Rattle.trace_values.specs.Stream.{Kept, Notice, Said, Stream, kept}
pub use Rattle.trace_values.specs.Walk.{Walked, Within, by_unit, walk}
pub use Rattle.trace_values.specs.declared.cell.Cell.{Cell}
pub use Rattle.trace_values.specs.declared.fault.Reason.{Reason}
pub use Rattle.trace_values.specs.declared.fault.Reason.TheVariants.{BadAsync, SyncInFrame}
pub use Rattle.trace_values.specs.declared.next.Next.{Next}
pub use Rattle.trace_values.specs.declared.next.Next.TheVariants.{End, Fail, Go}
pub use Rattle.trace_values.specs.declared.reading_modes.FramesMode.{FramesMode}
pub use Rattle.trace_values.specs.declared.reading_modes.FramesMode.TheVariants.{Aligned, Bare, Hunt}
