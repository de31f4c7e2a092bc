-- Bytes from text.
pub use Rattle.trace_values.specs.Hex.{hex}
