-- The data of a frame in their places.
use Rattle.std.proofs.Common.{◌≡◌, ℕ, ◌+◌, ◌*◌, ◌<◌, List, length, take, sym, ◌∙◌, ap, arith, Bool, true, false, cond}
use Rattle.std.specs.Prelude.{slice_index}
use Rattle.std.proofs.lemmas.List.{get_or-map, get_or-take}
use Rattle.frame_grammar.specs.Placing.{places_of}
use Rattle.frame_runs.specs.Data.{is_late, byte_in, place_in}
use Rattle.frame_runs.specs.Split.{AreInPlace}

-- the offset of a byte
pub offset_is : (at : ℕ) (behind : List ℕ) (i : ℕ) → i < length behind → slice_index (places_of at behind) i ≡ at + slice_index behind i
offset_is at behind i l = get_or-map (λ (b : ℕ). at + b) behind i 0 0 l

offset_in : (frame behind : List ℕ) (at k : ℕ) → length behind ≡ 16 → k < 8 → at + place_in frame behind k ≡ place_in frame (places_of at behind) k
offset_in frame behind at k long l = by (is_late frame k) where
  by : (t : Bool) → at + cond t (slice_index behind (2 * k + 1)) (slice_index behind (2 * k))
      ≡ cond t (slice_index (places_of at behind) (2 * k + 1)) (slice_index (places_of at behind) (2 * k))
  by true = sym (offset_is at behind (2 * k + 1) (omega (arith, long, l)))
  by false = sym (offset_is at behind (2 * k) (omega (arith, long, l)))

-- a byte of those that were put
byte_is : (room bytes : List ℕ) (i : ℕ) → take 16 room ≡ bytes → i < 16 → slice_index room i ≡ slice_index bytes i
byte_is room bytes i e l = sym (get_or-take 16 room i 0 l) ∙ ap (λ (x : List ℕ). slice_index x i) e

-- the data of a frame were put into their places
pub placed : (frame behind room bytes moved : List ℕ) (at : ℕ) → length behind ≡ 16 → length moved ≡ 16 → take 16 room ≡ bytes →
    ((k : ℕ) → k < 8 → slice_index bytes (2 * k) ≡ byte_in frame k) →
    ((k : ℕ) → k < 8 → slice_index bytes (2 * k + 1) ≡ slice_index frame (2 * k + 1)) →
    ((k : ℕ) → k < 8 → slice_index moved (2 * k) ≡ place_in frame behind k) →
    ((k : ℕ) → k < 8 → slice_index moved (2 * k + 1) ≡ slice_index behind (2 * k + 1)) →
    AreInPlace frame (places_of at behind) room (places_of at moved)
placed frame behind room bytes moved at long wide b even odd even_places odd_places =
    record {
      even = λ k l. byte_is room bytes (2 * k) b (omega arith) ∙ even k l;
      odd = λ k l. byte_is room bytes (2 * k + 1) b (omega arith) ∙ odd k l;
      even_places = λ k l.
          offset_is at moved (2 * k) (omega arith)
          ∙ ap (λ (n : ℕ). at + n) (even_places k l)
          ∙ offset_in frame behind at k long l;
      odd_places = λ k l.
          offset_is at moved (2 * k + 1) (omega arith)
          ∙ ap (λ (n : ℕ). at + n) (odd_places k l)
          ∙ sym (offset_is at behind (2 * k + 1) (omega arith));
    }
