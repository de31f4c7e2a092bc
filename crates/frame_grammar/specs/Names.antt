-- Names of lower crates, for the files of this one.
pub use Rattle.trace_values.specs.Cells.{source_id}
pub use Rattle.trace_values.specs.Grammar.{IsFront, PrefixLaw}
pub use Rattle.trace_values.specs.Placed.{Place, Placed, byte_at, placed, placed_from, units_of}
pub use Rattle.trace_values.specs.Reading.{IsFirstFault, IsReading, Progress, Reading, advance, progress, progress_from}
pub use Rattle.trace_values.specs.Reading.{reading, unread, with_unit}
pub use Rattle.trace_values.specs.Walk.{Decides, Walked, Whole, Within, after, walk}
pub use Rattle.trace_values.specs.declared.cell.Cell.{Cell}
pub use Rattle.trace_values.specs.declared.fault.Reason.{Reason}
pub use Rattle.trace_values.specs.declared.fault.Reason.TheVariants.{BadSync, SyncInFrame}
pub use Rattle.trace_values.specs.declared.next.Next.{Next}
pub use Rattle.trace_values.specs.declared.next.Next.TheVariants.{End, Fail, Go}
