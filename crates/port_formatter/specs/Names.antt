-- Names of lower crates, for the files of this one.
pub use Rattle.frame_writer.specs.Fronts.{sure_after}
pub use Rattle.frame_writer.specs.Sure.{Appends, Ends, IsSure, count_of, held_by, of_one, pairs_of}
pub use Rattle.frame_writer.specs.Written.{Tagged, written_segments}
pub use Rattle.frame_writer.specs.declared.sure.SureWriter.{SureWriter}
pub use Rattle.trace_funnel.specs.Acts.{Act, Drain, Offer, Turn, act, acts, offers}
pub use Rattle.trace_funnel.specs.SoundTurns.{IsSoundTurns}
pub use Rattle.trace_funnel.specs.State.{State, fresh, id_at, with_places}
pub use Rattle.trace_funnel.specs.Turns.{Place, Turned, drain, empty, load, turn}
pub use Rattle.trace_funnel.specs.declared.turns.Turns.{Turns}
pub use Rattle.trace_stream.specs.Debt.{Debt, Paid, Pours, owing}
pub use Rattle.trace_values.specs.declared.limits.TheConstants.{COUNT_ROOM}
