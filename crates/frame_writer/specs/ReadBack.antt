-- A written capture, read again.
use Rattle.std.specs.Prelude.{◌≡◌, ◌≢◌, ◌≤◌, ℕ, List, map, not, Option, None, Some}
use Rattle.std.specs.List.{All, filter}
use Rattle.trace_values.specs.Placed.{placed}
use Rattle.trace_values.specs.declared.cell.Cell.{Cell}
use Rattle.trace_values.specs.declared.reading_modes.FramesMode.TheVariants.{Aligned}
use Rattle.frame_grammar.specs.Reading.{is_source}
use Rattle.deformatter.specs.PortReading.{PortReading, port_reading, cells_of}
use Rattle.frame_writer.specs.Written.{Tagged}

-- a byte of a source from 1 to 126
pub record IsOfSource (x : Tagged) : Type 0 where
  pub named : 1 ≤ x.id
  pub in_range : x.id ≤ 126

-- what is seen of a cell, and of a tagged byte: the ID and the byte
abbrev pub seen : Cell → Option ℕ × ℕ
seen c = (c.id, c.byte)

abbrev pub as_seen : Tagged → Option ℕ × ℕ
as_seen x = (Some x.id, x.byte)

-- the cells of sources other than 0
abbrev pub source_cells : List Cell → List Cell
source_cells cs = filter (λ c. not (is_source 0 c.id)) cs

-- the reading of a written capture, from its first byte on
abbrev pub read_back : List ℕ → PortReading
read_back bytes = port_reading Aligned (placed bytes)

-- These bytes read back as t, from the first one on: there is no fault and no tail, each cell has an ID, and the cells
-- of IDs other than 0 are t, in order.
pub record ReadsBack (bytes : List ℕ) (t : List Tagged) : Type 0 where
  pub no_fault : (read_back bytes).fault ≡ None
  pub no_tail : (read_back bytes).tail ≡ 0
  pub attributed : All (λ c. c.id ≢ None) (cells_of (read_back bytes))
  pub cells : map seen (source_cells (cells_of (read_back bytes))) ≡ map as_seen t
