-- Worked rows of written captures, in text.
use Rattle.std.specs.Prelude.{ℕ, List, map}
use Rattle.frame_grammar.specs.Rows.{hex}
use Rattle.frame_writer.specs.Written.{Tagged}

-- the bytes of a text, all of one source
abbrev pub of_source : ℕ → List ℕ → List Tagged
of_source id text = map (λ byte. record { id = id; byte = byte }) (hex text)
