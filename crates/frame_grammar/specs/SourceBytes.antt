-- The bytes of one source in cells: those of a frame, or of all frames in order.
use Rattle.std.specs.Prelude.{ℕ, List, map}
use Rattle.frame_grammar.specs.Names.{Cell, Placed, byte_at}
use Rattle.frame_grammar.specs.Reading.{source_list}

-- the bytes of an ID's cells, in order
abbrev pub bytes_of_source : ℕ → List Cell → List ℕ
bytes_of_source id cells = map (λ c. c.byte) (source_list id cells)

-- the same bytes, each at its cell's offset
abbrev pub source_units : ℕ → List Cell → List Placed
source_units id cells = map (λ c. byte_at c.at c.byte) (source_list id cells)
