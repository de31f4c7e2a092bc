-- Names of lower crates, for the files of this one.
pub use Rattle.itm_grammar.specs.Proper.{IsProper, first_bits}
pub use Rattle.itm_grammar.specs.Rule.{count_of, is_sound, rule}
pub use Rattle.itm_grammar.specs.Shortest.{bytes_of, groups_of, short, shortest_len}
pub use Rattle.itm_grammar.specs.Spelling.{IsContinued, IsExtended, Spells, bit_of, byte_count, extended, groups}
pub use Rattle.itm_grammar.specs.Spelling.{more_bit}
pub use Rattle.itm_grammar.specs.Spelling.{late_bits, number, size_bits, why}
pub use Rattle.itm_grammar.specs.declared.packet.ItmPacket.{ItmPacket}
pub use Rattle.itm_grammar.specs.declared.packet.ItmPacket.TheVariants.{GlobalSecond, Sync}
pub use Rattle.itm_grammar.specs.declared.partial.Partial.{Partial}
pub use Rattle.itm_grammar.specs.declared.partial.Partial.TheVariants.{Header, Zeros}
pub use Rattle.trace_values.specs.Grammar.{InUnits, IsFront}
pub use Rattle.trace_values.specs.Hunted.{Seeks, hunt, hunted_by, pattern_of}
pub use Rattle.trace_values.specs.Moded.{StandsIn, hunts, is_counted, is_locked, skipped_of, stream_in}
pub use Rattle.trace_values.specs.Placed.{Place, Placed, byte_at, units_of}
pub use Rattle.trace_values.specs.Reading.{Progress, progress}
pub use Rattle.trace_values.specs.Stream.{Grows, HasRoom, Kept, Notice, Stream, Tells, shown}
pub use Rattle.trace_values.specs.Taking.{Passes, TakesNone, given_after, item_at}
pub use Rattle.trace_values.specs.Walk.{Broken, Decides, Walked, Whole, Within, after, by_unit, walk}
pub use Rattle.trace_values.specs.declared.limits.TheConstants.{COUNT_ROOM}
pub use Rattle.trace_values.specs.declared.mode.Mode.{Mode}
pub use Rattle.trace_values.specs.declared.mode.Mode.TheVariants.{Aligned, Hunting, Locked}
pub use Rattle.trace_values.specs.declared.next.Next.{Next}
pub use Rattle.trace_values.specs.declared.next.Next.TheVariants.{End, Fail, Go}
pub use Rattle.trace_values.specs.declared.pattern.Pattern.{Pattern}
pub use Rattle.trace_values.specs.declared.taking.Found.{Found}
pub use Rattle.trace_values.specs.declared.taking.Found.TheVariants.{Ends, Unknown, Waits}
pub use Rattle.trace_values.specs.declared.taking.TakenAtOnce.{TakenAtOnce}
