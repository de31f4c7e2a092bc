-- Where bytes are, by how far behind the first of them each is.
use Rattle.std.specs.Prelude.{◌≡◌, ◌≤◌, ◌<◌, ℕ, ◌+◌, ◌*◌, List, length, map, slice_index, take}
use Rattle.frame_grammar.specs.Names.{placed_from}
use Rattle.frame_grammar.specs.Reading.{offsets_of}
use Rattle.frame_grammar.specs.Whole.{IsWhole, without_halves}
use Rattle.frame_grammar.specs.declared.frame.TheConstants.{FRAME_BYTES}

-- the offsets of bytes that are so far behind this one
abbrev pub places_of : ℕ → List ℕ → List ℕ
places_of at behind = map (λ b. at + b) behind

-- A piece whose first byte is at this offset begins with this frame, with so many half synchronisations between its
-- halfwords. How far behind the first byte each byte of the frame is, `behind` says.
pub record BeginsPiece (at : ℕ) (piece frame behind : List ℕ) (halves : ℕ) : Type 0 where
  pub room : FRAME_BYTES + 2 * halves ≤ length piece
  pub whole : IsWhole (take (FRAME_BYTES + 2 * halves) piece) frame halves
  pub offsets : places_of at behind
      ≡ offsets_of (without_halves (placed_from at (take (FRAME_BYTES + 2 * halves) piece)))
  pub near : (i : ℕ) → i < FRAME_BYTES → slice_index behind i < FRAME_BYTES + 2 * halves
