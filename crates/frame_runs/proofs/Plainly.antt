-- Frames with no half synchronisation between their halfwords, and where their bytes are.
use Rattle.std.proofs.Common.{◌≡◌, ℕ, ◌+◌, ◌<◌, ◌≤◌, List, [], ◌∷◌, ◌++◌, length, take, get_or, set, sym, ◌∙◌, ap, subst, arith}
use Rattle.std.proofs.lemmas.List.{length-take-le, map_push, take_more, take_more_set}
use Rattle.trace_values.specs.Placed.{Placed, byte_at, placed_from}
use Rattle.trace_values.proofs.Placing.{placed_from_push}
use Rattle.frame_grammar.specs.Frame.{IsProperFrame}
use Rattle.frame_grammar.specs.Reading.{offsets_of}
use Rattle.frame_grammar.specs.Whole.{IsWhole, without_halves}
use Rattle.frame_grammar.proofs.Wholes.{nothing_goes, plain_is_whole}

module _ (piece frame : List ℕ) (is : frame ≡ take 16 piece) (room : 16 ≤ length piece) (proper : IsProperFrame frame) where
  size : length frame ≡ 16
  size = ap length is ∙ length-take-le 16 piece room

  pub plain_whole : IsWhole (take 16 piece) frame 0
  plain_whole = subst (λ (w : List ℕ). IsWhole w frame 0) is (plain_is_whole frame size proper)

  pub plain_stays : (at : ℕ) → without_halves (placed_from at (take 16 piece)) ≡ placed_from at (take 16 piece)
  plain_stays at =
      subst (λ (l : List ℕ). without_halves (placed_from at l) ≡ placed_from at l) is (nothing_goes 8 at frame size proper)

-- one more offset
pub next_offset : (at i : ℕ) (offsets bytes : List ℕ) → i < length offsets → i < length bytes →
    take i offsets ≡ offsets_of (placed_from at (take i bytes)) →
    take (i + 1) (set offsets i (at + i)) ≡ offsets_of (placed_from at (take (i + 1) bytes))
next_offset at i offsets bytes h l so_far =
    take_more_set offsets i (at + i) h
    ∙ ap (λ (xs : List ℕ). xs ++ (at + i) ∷ []) so_far
    ∙ ap (λ (n : ℕ). offsets_of (placed_from at (take i bytes)) ++ (at + n) ∷ []) (sym (length-take-le i bytes (omega arith)))
    ∙ sym (map_push (λ (p : Placed). p.place.at) (placed_from at (take i bytes)) (byte_at (at + length (take i bytes)) (get_or bytes i 0)))
    ∙ ap offsets_of (sym (placed_from_push at (take i bytes) (get_or bytes i 0)))
    ∙ ap (λ (xs : List ℕ). offsets_of (placed_from at xs)) (sym (take_more bytes i 0 l))
