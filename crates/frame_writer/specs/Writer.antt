-- What a writer stands for.
use Rattle.std.specs.Prelude.{◌≡◌, ℕ, ◌+◌, ◌*◌, List, [], ◌∷◌, ◌++◌, length, Option}
use Rattle.std.specs.List.{concat}
use Rattle.frame_writer.specs.declared.writer.FrameWriter.{FrameWriter}
use Rattle.frame_writer.specs.Written.{Tagged, none_later, segments_then, segment_frames}
use Rattle.frame_writer.specs.Unfinished.{continued}

-- the frames of these later segments
abbrev pub later_of : FrameWriter → List (List Tagged) → ℕ → Option ℕ → List (List ℕ)
later_of w segments n c = segments_then w.every w.halves none_later segments n c

-- the frames that it will still append when these bytes are put, and then these segments, and it is finished
abbrev pub to_come : FrameWriter → List Tagged → List (List Tagged) → List (List ℕ)
to_come w t segments = continued w.every w.halves (later_of w segments) w.frames w.pairs.items w.id w.held t

-- how many frames it has appended
abbrev pub appended : FrameWriter → ℕ
appended w = w.frames

-- seven for each frame, and one for each pair of the unfinished one: two more at most with each byte put
abbrev pub load_of : FrameWriter → ℕ
load_of w = 7 * w.frames + length w.pairs.items

-- what one call appended: no frame, or these bytes as one frame
abbrev pub as_frame : List ℕ → List (List ℕ)
as_frame [] = []
as_frame (b ∷ out) = (b ∷ out) ∷ []

-- It stands for these closed segments and the bytes t of an unfinished one, of which this much is written: whole
-- frames, as many as it counts; and whatever is put after t and in later segments, what is still to come completes the
-- frames of all segments.
pub record Stands (w : FrameWriter) (every halves : ℕ) (closed : List (List Tagged)) (t : List Tagged)
    (so_far : List ℕ) : Type 0 where
  pub done : List (List ℕ)
  pub bytes : so_far ≡ concat done
  pub count : appended w ≡ length done
  pub completes : (u : List Tagged) (later : List (List Tagged)) →
      segment_frames every halves (closed ++ ((t ++ u) ∷ later)) ≡ done ++ to_come w u later
