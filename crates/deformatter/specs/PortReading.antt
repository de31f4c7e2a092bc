-- What the bytes of a port read as: in frames from the first byte on, in frames after a hunt (CoreSight Architecture
-- Specification, Arm IHI 0029E (version 3.0), chapter 'Trace Formatter', its section on frames), or bare, with no
-- formatter (this project's profile).
use Rattle.std.specs.Prelude.{ℕ, List, [], ◌∷◌, map, Bool, true, false, Option, None, Some}
use Rattle.std.specs.List.{flat_map, sum_by}
use Rattle.deformatter.specs.Names.{Cell, Reason, Place, Placed, FramesMode, Hunt, Aligned, Bare, PortItem, Full, Half}
use Rattle.deformatter.specs.Names.{Frame, cells, id_after, offsets_of, units_of, fulls_in}
use Rattle.deformatter.specs.Reading.{PortStream, port_stream, items_of}

-- What a port's bytes read as: the cells of each frame, in order; how many full and half synchronisations, a half one
-- inside an unfinished frame too; the fault; how many bytes are after the last whole frame or synchronisation; how many
-- were skipped; and whether it reads.
pub record PortReading : Type 0 where
  pub frames : List (List Cell)
  pub fulls : ℕ
  pub halves : ℕ
  pub fault : Option (Place × Reason)
  pub tail : ℕ
  pub skipped : ℕ
  pub locked : Bool

-- the cells of each frame of some items, after this ID: synchronisations leave the ID as it is
abbrev pub frames_of_items : Option ℕ → List PortItem → List (List Cell)
frames_of_items id [] = []
frames_of_items id (Full ∷ items) = frames_of_items id items
frames_of_items id (Half ∷ items) = frames_of_items id items
frames_of_items id (Frame f halves ∷ items) =
    cells (units_of f) (offsets_of f) id ∷ frames_of_items (id_after (units_of f) id) items

-- the reading of bytes with a formatter; no ID is in force before the first frame
abbrev pub framed : PortStream → PortReading
framed s = record {
  frames = frames_of_items None (items_of s.items);
  fulls = sum_by fulls_in (items_of s.items);
  halves = s.halves;
  fault = s.fault;
  tail = s.tail;
  skipped = s.skipped;
  locked = s.locked;
}

-- a byte with no formatter is a data byte of source 1
abbrev pub bare_cell : Placed → Cell
bare_cell b = record { at = b.place.at; id = Some 1; run = 0; byte = b.unit }

-- the reading of bytes with no formatter: each byte is a frame of its own, and nothing is skipped, left over or wrong
abbrev pub bare : List Placed → PortReading
bare u = record {
  frames = map (λ b. bare_cell b ∷ []) u;
  fulls = 0;
  halves = 0;
  fault = None;
  tail = 0;
  skipped = 0;
  locked = true;
}

-- the reading in a mode
abbrev pub port_reading : FramesMode → List Placed → PortReading
port_reading Aligned u = framed (port_stream false u)
port_reading Hunt u = framed (port_stream true u)
port_reading Bare u = bare u

-- the cells of all frames, in order
abbrev pub cells_of : PortReading → List Cell
cells_of r = flat_map (λ frame. frame) r.frames
