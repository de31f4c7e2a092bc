-- Names of lower crates, for the files of this one.
pub use Rattle.trace_values.specs.Grammar.{InUnits, PrefixLaw}
pub use Rattle.trace_values.specs.Placed.{Placed, placed, units_of}
pub use Rattle.trace_values.specs.Reading.{IsReading, Reading, reading}
pub use Rattle.trace_values.specs.Walk.{Decides, Walked, Whole, Within, after, by_unit, walk}
pub use Rattle.trace_values.specs.declared.fault.Reason.{Reason}
pub use Rattle.trace_values.specs.declared.fault.Reason.TheVariants.{BadItmSync, LongStamp, ReservedHeader, ShortStamp}
pub use Rattle.trace_values.specs.declared.next.Next.{Next}
pub use Rattle.trace_values.specs.declared.next.Next.TheVariants.{End, Fail, Go}
