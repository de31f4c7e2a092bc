-- Names of lower crates, for the files of this one.
pub use Rattle.trace_values.specs.Decorated.{carried, decorate, decorated, kept_if}
pub use Rattle.trace_values.specs.Hunt.{EndsWith, IsAfter, IsFirst, IsNowhere}
pub use Rattle.trace_values.specs.Hunted.{Found, Hunt, begun, hunt, hunt_from, hunt_on, hunted_by, no_hunt, pattern_of}
pub use Rattle.trace_values.specs.Hunted.{run_after}
pub use Rattle.trace_values.specs.Moded.{stream_in}
pub use Rattle.trace_values.specs.Placed.{Place, Placed, units_of}
pub use Rattle.trace_values.specs.Reading.{IsReading, Progress, Reading, Splits, advance, progress, progress_from}
pub use Rattle.trace_values.specs.Reading.{reading, with_unit}
pub use Rattle.trace_values.specs.Stream.{Kept, Notice, Said, Stream, kept, shown}
pub use Rattle.trace_values.specs.Walk.{Decides, Whole, Within, by_unit, walk}
pub use Rattle.trace_values.specs.declared.fault.Reason.{Reason}
pub use Rattle.trace_values.specs.declared.next.Next.{Next}
pub use Rattle.trace_values.specs.declared.next.Next.TheVariants.{End, Fail, Go}
pub use Rattle.trace_values.specs.declared.pattern.Pattern.{Pattern}
