-- Which bytes a gathered frame stands for.
use Rattle.std.specs.Prelude.{◌≡◌, ℕ, List}
use Rattle.trace_values.specs.Placed.{placed_from}
use Rattle.frame_grammar.specs.Placing.{places_of}
use Rattle.frame_grammar.specs.Reading.{offsets_of}
use Rattle.frame_grammar.specs.Whole.{IsWhole, without_halves}
use Rattle.frame_grammar.specs.declared.gather.PlacedFrame.{PlacedFrame}

-- the offsets of its bytes
abbrev pub frame_places : PlacedFrame → List ℕ
frame_places frame = places_of frame.at frame.behind

-- these bytes, the first of which is at this offset
pub record IsGathered (at : ℕ) (w : List ℕ) (frame : PlacedFrame) : Type 0 where
  pub whole : IsWhole w frame.bytes frame.halves
  pub offsets : frame_places frame ≡ offsets_of (without_halves (placed_from at w))
