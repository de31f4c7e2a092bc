-- Names of lower crates, for the files of this one.
pub use Rattle.stp_grammar.specs.Attributed.{Stands}
pub use Rattle.stp_grammar.specs.Attribution.{attribute, item_of}
pub use Rattle.stp_grammar.specs.Opcodes.{Opening, line_of, row_at}
pub use Rattle.stp_grammar.specs.Proper.{IsProper, IsProperItem}
pub use Rattle.stp_grammar.specs.Rule.{after_payload, begin, count_of, first_opening, is_sound, number_with, opened}
pub use Rattle.stp_grammar.specs.Rule.{rule, second_opening, size_with, third_opening}
pub use Rattle.stp_grammar.specs.Said.{IsProperSaid, packet_at, row_packet, said_item}
pub use Rattle.stp_grammar.specs.Spelling.{Spells, number, why}
pub use Rattle.stp_grammar.specs.declared.attribution.Attribution.{Attribution}
pub use Rattle.stp_grammar.specs.declared.item.StpItem.{StpItem}
pub use Rattle.stp_grammar.specs.declared.packet.Order.{Order}
pub use Rattle.stp_grammar.specs.declared.packet.Order.TheVariants.{Lsn, Msn}
pub use Rattle.stp_grammar.specs.declared.packet.Row.{Row}
pub use Rattle.stp_grammar.specs.declared.packet.Row.TheVariants.{Null}
pub use Rattle.stp_grammar.specs.declared.packet.StpPacket.{StpPacket}
pub use Rattle.stp_grammar.specs.declared.packet.StpPacket.TheVariants.{Async, Plain, Stamped}
pub use Rattle.stp_grammar.specs.declared.partial.Partial.{Partial}
pub use Rattle.stp_grammar.specs.declared.partial.Partial.TheVariants.{Payload, Run, Second, Size, Start, Third, Word}
pub use Rattle.trace_clock.specs.LastWord.{nibble_count}
pub use Rattle.trace_values.specs.Decorated.{carried, decorated}
pub use Rattle.trace_values.specs.Grammar.{InUnits, IsFront}
pub use Rattle.trace_values.specs.Hunt.{IsFirst, IsNowhere}
pub use Rattle.trace_values.specs.Hunted.{Found, Hunt, hunt, hunt_on, hunted_by, pattern_of, run_after}
pub use Rattle.trace_values.specs.Moded.{StandsIn, hunts, is_counted, is_locked, skipped_of, stream_in}
pub use Rattle.trace_values.specs.Nibbles.{high_of, low_of, nibbles_of}
pub use Rattle.trace_values.specs.Placed.{Place, Placed, byte_at, units_of}
pub use Rattle.trace_values.specs.Reading.{Progress, advance, progress, with_unit}
pub use Rattle.trace_values.specs.Standing.{Keeps, live_after, state_after}
pub use Rattle.trace_values.specs.Stream.{Grows, HasRoom, LocksAfter, Notice, Stream, Tells, fault_by, given_by}
pub use Rattle.trace_values.specs.Stream.{goes_on, shown}
pub use Rattle.trace_values.specs.Taking.{Passes, TakesNone, given_after, item_at}
pub use Rattle.trace_values.specs.Walk.{Beyond, Broken, Decides, Walked, Whole, Within, after, by_unit, walk}
pub use Rattle.trace_values.specs.declared.fault.Reason.{Reason}
pub use Rattle.trace_values.specs.declared.limits.TheConstants.{COUNT_ROOM}
pub use Rattle.trace_values.specs.declared.mode.Mode.{Mode}
pub use Rattle.trace_values.specs.declared.mode.Mode.TheVariants.{Aligned, Hunting}
pub use Rattle.trace_values.specs.declared.next.Next.{Next}
pub use Rattle.trace_values.specs.declared.next.Next.TheVariants.{End, Fail, Go}
pub use Rattle.trace_values.specs.declared.pattern.Pattern.{Pattern}
pub use Rattle.trace_values.specs.declared.step.Step.{Step}
pub use Rattle.trace_values.specs.declared.step.Step.TheVariants.{Fault, Item, Locked, Quiet, Skipping}
