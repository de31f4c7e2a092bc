-- The packets of sources of several kinds: a reading whose items are seen as packets.
use Rattle.std.specs.Prelude.{List, map}
use Rattle.trace_values.specs.Placed.{Place}
use Rattle.trace_values.specs.Stream.{Said, Notice, Kept, Stream}

-- what a source says, with its items seen so
abbrev pub said_as : {V W : Type 0} → (V → W) → Said V → Said W
said_as f (Notice skipped) = Notice skipped
said_as f (Kept v) = Kept (f v)

abbrev pub given_as : {V W : Type 0} → (V → W) → List (Said V × Place) → List (Said W × Place)
given_as f given = map (λ e. (said_as f e.0, e.1)) given

-- a reading with its items seen so
abbrev pub stream_as : {V W : Type 0} → (V → W) → Stream V → Stream W
stream_as f s = record {
  given = given_as f s.given;
  fault = s.fault;
  held = s.held;
  skipped = s.skipped;
  locked = s.locked;
}
