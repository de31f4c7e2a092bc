-- Segments of tagged bytes, of which the last goes on.
use Rattle.std.specs.Prelude.{List, [], ◌∷◌, ◌++◌}
use Rattle.frame_writer.specs.Written.{Tagged}

-- those that are ended, and the unfinished one
pub record Segments : Type 0 where
  pub ended : List (List Tagged)
  pub begun : List Tagged

abbrev pub no_segments : Segments
no_segments = record { ended = []; begun = [] }

-- bytes are put in the unfinished one, and that is ended
abbrev pub with_bytes : Segments → List Tagged → Segments
with_bytes s bytes = record { ended = s.ended; begun = s.begun ++ bytes }

abbrev pub now_ended : Segments → List (List Tagged)
now_ended s = s.ended ++ s.begun ∷ []

-- and another one is begun
abbrev pub after_flush : Segments → Segments
after_flush s = record { ended = now_ended s; begun = [] }
