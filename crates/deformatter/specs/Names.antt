-- Names of lower crates, for the files of this one.
pub use Rattle.frame_grammar.specs.Frame.{IsProperBelow, IsProperFrame, cell, cells, cells_below, even_cells, even_data}
pub use Rattle.frame_grammar.specs.Frame.{id_after, names}
pub use Rattle.frame_grammar.specs.Port.{Between, First, Frame, Full, Half, IsFrame, IsWord, IsWords, One, Part}
pub use Rattle.frame_grammar.specs.Port.{PortItem, Spells, State, Three, Two, half_ended, half_words}
pub use Rattle.frame_grammar.specs.Port.{part_rule, rule, start, why, with_part, word_ended}
pub use Rattle.frame_grammar.specs.Reading.{cells_of_items, frame_count, frames_in, full_count, fulls_in, half_count}
pub use Rattle.frame_grammar.specs.Reading.{halves_in, id_of_items, item_cells, item_id, offsets_of, port_cells}
pub use Rattle.frame_grammar.specs.Reading.{port_progress, port_reading}
pub use Rattle.frame_grammar.specs.declared.frame.TheConstants.{FRAME_BYTES}
pub use Rattle.port_sync.specs.Aligned.{is_fit, placed_part, size_of, state}
pub use Rattle.port_sync.specs.Hunting.{pattern, run_of}
pub use Rattle.port_sync.specs.declared.hunter.Hunter.{Hunter}
pub use Rattle.trace_values.specs.Hunt.{IsFirst, IsNowhere}
pub use Rattle.trace_values.specs.Hunted.{Found, Seeks, begun, hunt, hunt_from, hunt_on, no_hunt, pattern_of, run_after}
pub use Rattle.trace_values.specs.Moded.{StandsIn, hunts, is_counted, is_locked, skipped_of}
pub use Rattle.trace_values.specs.Placed.{Place, Placed, byte_at, placed, placed_from, units_of}
pub use Rattle.trace_values.specs.Reading.{IsFirstFault, IsReading, Progress, Reading, Splits, advance, progress}
pub use Rattle.trace_values.specs.Reading.{progress_from, reading, unread, with_unit}
pub use Rattle.trace_values.specs.Standing.{live_after, state_after}
pub use Rattle.trace_values.specs.Stream.{FaultAt}
pub use Rattle.trace_values.specs.Walk.{Walked, Whole, after, walk}
pub use Rattle.trace_values.specs.declared.cell.Cell.{Cell}
pub use Rattle.trace_values.specs.declared.fault.Reason.{Reason}
pub use Rattle.trace_values.specs.declared.fault.Reason.TheVariants.{BadSync, SyncInFrame}
pub use Rattle.trace_values.specs.declared.limits.TheConstants.{COUNT_ROOM, PART_ROOM}
pub use Rattle.trace_values.specs.declared.mode.Mode.{Mode}
pub use Rattle.trace_values.specs.declared.mode.Mode.TheVariants.{Hunting, Locked}
pub use Rattle.trace_values.specs.declared.next.Next.{Next}
pub use Rattle.trace_values.specs.declared.next.Next.TheVariants.{End, Fail, Go}
pub use Rattle.trace_values.specs.declared.reading_modes.FramesMode.{FramesMode}
pub use Rattle.trace_values.specs.declared.reading_modes.FramesMode.TheVariants.{Aligned, Bare, Hunt}
