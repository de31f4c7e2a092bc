-- Names of lower crates, for the files of this one.
pub use Rattle.stp_grammar.specs.Attribution.{attribute, begins_master, channel_of, item_of, item_with, keeps_word}
pub use Rattle.stp_grammar.specs.Attribution.{master_of, place_of, stamp_by, stamp_in, version_in}
unfoldable pub use Rattle.stp_grammar.specs.Attribution.{last_word_of, version_of}
pub use Rattle.stp_grammar.specs.NextState.{next_channel, next_last, next_master, next_number, next_version}
pub use Rattle.stp_grammar.specs.Opcodes.{line_of}
pub use Rattle.stp_grammar.specs.Proper.{IsProper, IsProperItem, IsProperPlace, IsProperStamp, bits_of}
pub use Rattle.stp_grammar.specs.Shortest.{IsByRow, digits, nibbles_of_number, short}
pub use Rattle.stp_grammar.specs.declared.item.Place.{Place}
pub use Rattle.stp_grammar.specs.declared.item.Stamp.{Stamp}
pub use Rattle.stp_grammar.specs.declared.item.Stamp.TheVariants.{Gray, Natural, None, Raw}
pub use Rattle.stp_grammar.specs.declared.item.StpItem.{StpItem}
pub use Rattle.stp_grammar.specs.declared.item.StpItem.TheVariants.{Async, Datum, Flag, Frequency, GlobalError}
pub use Rattle.stp_grammar.specs.declared.item.StpItem.TheVariants.{MasterError, NullStamp, Trigger, Version}
pub use Rattle.stp_grammar.specs.declared.packet.Order.{Order}
pub use Rattle.stp_grammar.specs.declared.packet.Order.TheVariants.{Lsn, Msn}
pub use Rattle.stp_grammar.specs.declared.packet.Row.{Row}
pub use Rattle.stp_grammar.specs.declared.packet.Row.TheVariants.{Channel16, Channel8, Master16, Master8, Null}
pub use Rattle.stp_grammar.specs.declared.packet.StpPacket.{StpPacket}
pub use Rattle.stp_grammar.specs.declared.packet.StpPacket.TheVariants.{Plain, Stamped}
pub use Rattle.stp_grammar.specs.declared.packet.Width.{Width}
pub use Rattle.stp_grammar.specs.declared.partial.Partial.{Partial}
pub use Rattle.trace_clock.specs.GrayCode.{gray_of, natural_of}
pub use Rattle.trace_clock.specs.LastWord.{IsLeast, SizedWord, WordFits, last_word, next_word, nibble_at, nibble_count}
pub use Rattle.trace_clock.specs.LastWord.{sized}
pub use Rattle.trace_values.specs.Nibbles.{nibbles_of}
pub use Rattle.trace_values.specs.Placed.{Placed, units_of}
pub use Rattle.trace_values.specs.Reading.{Progress, progress_from}
pub use Rattle.trace_values.specs.Stream.{Kept, Said, kept}
