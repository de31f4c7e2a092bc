-- The bytes of a frame in their places.
use Rattle.std.proofs.Common.{◌≡◌, ℕ, zero, suc, ◌+◌, ◌-◌, ◌*◌, ◌/◌, ◌%◌, ◌^◌, ◌<◌, List, ◌++◌, refl, ◌∙◌, ap, arith}
use Rattle.std.specs.Prelude.{nat_lt, ◌==◌, ◌&&◌, if◌then◌else◌, slice_index}
use Rattle.frame_grammar.specs.Frame.{even_data}
use Rattle.frame_runs.specs.Data.{first_bytes, last_bytes, with_bit, with_bits, is_late, byte_in, place_in, late_bit, late_bits, moved_byte, moved_bytes}
use Rattle.frame_runs.proofs.Moves.{small_late, sum_0, sum_1, sum_2, sum_3}

-- by cases
eight : (P : ℕ → Type 0) → P 0 → P 1 → P 2 → P 3 → P 4 → P 5 → P 6 → P 7 → (k : ℕ) → k < 8 → P k
eight P p0 p1 p2 p3 p4 p5 p6 p7 zero h = p0
eight P p0 p1 p2 p3 p4 p5 p6 p7 (suc zero) h = p1
eight P p0 p1 p2 p3 p4 p5 p6 p7 (suc (suc zero)) h = p2
eight P p0 p1 p2 p3 p4 p5 p6 p7 (suc (suc (suc zero))) h = p3
eight P p0 p1 p2 p3 p4 p5 p6 p7 (suc (suc (suc (suc zero)))) h = p4
eight P p0 p1 p2 p3 p4 p5 p6 p7 (suc (suc (suc (suc (suc zero))))) h = p5
eight P p0 p1 p2 p3 p4 p5 p6 p7 (suc (suc (suc (suc (suc (suc zero)))))) h = p6
eight P p0 p1 p2 p3 p4 p5 p6 p7 (suc (suc (suc (suc (suc (suc (suc zero))))))) h = p7
eight P p0 p1 p2 p3 p4 p5 p6 p7 (suc (suc (suc (suc (suc (suc (suc (suc k)))))))) h = absurd (omega arith)

-- what is at an index of two halves
abbrev at : List ℕ → List ℕ → ℕ → ℕ
at first last i = if nat_lt i 8 then slice_index first i else slice_index last (i - 8)

-- the halves of a list
even_half : (xs : List ℕ) (k : ℕ) → k < 8 → at (first_bytes xs) (last_bytes xs) (2 * k) ≡ slice_index xs (2 * k)
even_half xs k h = eight (λ k. at (first_bytes xs) (last_bytes xs) (2 * k) ≡ slice_index xs (2 * k)) refl refl refl refl refl refl refl refl k h

odd_half : (xs : List ℕ) (k : ℕ) → k < 8 → at (first_bytes xs) (last_bytes xs) (2 * k + 1) ≡ slice_index xs (2 * k + 1)
odd_half xs k h = eight (λ k. at (first_bytes xs) (last_bytes xs) (2 * k + 1) ≡ slice_index xs (2 * k + 1)) refl refl refl refl refl refl refl refl k h

-- a byte with its bit from byte 15
pub bit_is : (x a b : ℕ) → a ≡ b → with_bit x a ≡ 2 * (x / 2) + b
bit_is x a b h = ap (with_bit x) h

-- one that is moved, or not
choice : (x y d p m : ℕ) → p < 2 → m ≡ late_bit x p → moved_byte m d y ≡ (if x % 2 == 1 && p == 1 then y else d)
choice x y d zero m few e = grind (arith, e)
choice x y d (suc zero) m few e = grind (arith, e)
choice x y d (suc (suc p)) m few e = absurd (omega arith)

module _ (frame : List ℕ) where
  abbrev aux : ℕ
  aux = slice_index frame 15

  -- their bits 0 are mended
  abbrev pub first_mended : List ℕ
  first_mended = with_bits (first_bytes frame) (aux % 16)

  abbrev pub last_mended : List ℕ
  last_mended = with_bits (last_bytes frame) (aux / 16)

  even_mended : (k : ℕ) → k < 8 → at first_mended last_mended (2 * k) ≡ even_data frame k
  even_mended k h =
      eight (λ k. at first_mended last_mended (2 * k) ≡ even_data frame k)
      (bit_is (slice_index frame 0) (aux % 16 % 2) (aux / 2 ^ 0 % 2) (omega arith))
      (bit_is (slice_index frame 2) (aux % 16 / 2 % 2) (aux / 2 ^ 1 % 2) (omega arith))
      (bit_is (slice_index frame 4) (aux % 16 / 4 % 2) (aux / 2 ^ 2 % 2) (omega arith))
      (bit_is (slice_index frame 6) (aux % 16 / 8 % 2) (aux / 2 ^ 3 % 2) (omega arith))
      (bit_is (slice_index frame 8) (aux / 16 % 2) (aux / 2 ^ 4 % 2) (omega arith))
      (bit_is (slice_index frame 10) (aux / 16 / 2 % 2) (aux / 2 ^ 5 % 2) (omega arith))
      (bit_is (slice_index frame 12) (aux / 16 / 4 % 2) (aux / 2 ^ 6 % 2) (omega arith))
      (bit_is (slice_index frame 14) (aux / 16 / 8 % 2) (aux / 2 ^ 7 % 2) (omega arith)) k h

  odd_mended : (k : ℕ) → k < 8 → at first_mended last_mended (2 * k + 1) ≡ slice_index frame (2 * k + 1)
  odd_mended k h = eight (λ k. at first_mended last_mended (2 * k + 1) ≡ slice_index frame (2 * k + 1)) refl refl refl refl refl refl refl refl k h

  -- those that are late
  abbrev pub early : ℕ
  early = late_bits (first_bytes frame) (aux % 16)

  abbrev pub later : ℕ
  later = late_bits (last_bytes frame) (aux / 16 % 8)

  -- the bits of these
  module _ (bytes : List ℕ) (bits : ℕ) where
    module _ (i b : ℕ) where
      abbrev one : ℕ
      one = late_bit (slice_index bytes i) (b % 2)

      one_small : one < 2
      one_small = small_late (slice_index bytes i) (b % 2) (omega arith)

    bit_0 : late_bits bytes bits % 2 ≡ one 0 bits
    bit_0 = sum_0 (one 0 bits) (one 2 (bits / 2)) (one 4 (bits / 4)) (one 6 (bits / 8)) (one_small 0 bits) (one_small 2 (bits / 2)) (one_small 4 (bits / 4)) (one_small 6 (bits / 8))

    bit_1 : late_bits bytes bits / 2 % 2 ≡ one 2 (bits / 2)
    bit_1 = sum_1 (one 0 bits) (one 2 (bits / 2)) (one 4 (bits / 4)) (one 6 (bits / 8)) (one_small 0 bits) (one_small 2 (bits / 2)) (one_small 4 (bits / 4)) (one_small 6 (bits / 8))

    bit_2 : late_bits bytes bits / 4 % 2 ≡ one 4 (bits / 4)
    bit_2 = sum_2 (one 0 bits) (one 2 (bits / 2)) (one 4 (bits / 4)) (one 6 (bits / 8)) (one_small 0 bits) (one_small 2 (bits / 2)) (one_small 4 (bits / 4)) (one_small 6 (bits / 8))

    bit_3 : late_bits bytes bits / 8 % 2 ≡ one 6 (bits / 8)
    bit_3 = sum_3 (one 0 bits) (one 2 (bits / 2)) (one 4 (bits / 4)) (one 6 (bits / 8)) (one_small 0 bits) (one_small 2 (bits / 2)) (one_small 4 (bits / 4)) (one_small 6 (bits / 8))

  -- two halves of which those are moved
  module _ (first last : List ℕ) where
    abbrev pub moves : List ℕ
    moves = moved_bytes first early ++ moved_bytes last later

    even_moved : (k : ℕ) → k < 8 → slice_index moves (2 * k) ≡ (if is_late frame k then at first last (2 * k + 1) else at first last (2 * k))
    even_moved k h =
        let front = first_bytes frame in
        let back = last_bytes frame in
        let low = aux % 16 in
        let high = aux / 16 % 8 in
        eight (λ k. slice_index moves (2 * k) ≡ (if is_late frame k then at first last (2 * k + 1) else at first last (2 * k)))
        (choice (slice_index frame 0) _ _ (aux / 2 ^ 0 % 2) (early % 2) (omega arith) (bit_0 front low ∙ ap (late_bit (slice_index frame 0)) (omega arith)))
        (choice (slice_index frame 2) _ _ (aux / 2 ^ 1 % 2) (early / 2 % 2) (omega arith) (bit_1 front low ∙ ap (late_bit (slice_index frame 2)) (omega arith)))
        (choice (slice_index frame 4) _ _ (aux / 2 ^ 2 % 2) (early / 4 % 2) (omega arith) (bit_2 front low ∙ ap (late_bit (slice_index frame 4)) (omega arith)))
        (choice (slice_index frame 6) _ _ (aux / 2 ^ 3 % 2) (early / 8 % 2) (omega arith) (bit_3 front low ∙ ap (late_bit (slice_index frame 6)) (omega arith)))
        (choice (slice_index frame 8) _ _ (aux / 2 ^ 4 % 2) (later % 2) (omega arith) (bit_0 back high ∙ ap (late_bit (slice_index frame 8)) (omega arith)))
        (choice (slice_index frame 10) _ _ (aux / 2 ^ 5 % 2) (later / 2 % 2) (omega arith) (bit_1 back high ∙ ap (late_bit (slice_index frame 10)) (omega arith)))
        (choice (slice_index frame 12) _ _ (aux / 2 ^ 6 % 2) (later / 4 % 2) (omega arith) (bit_2 back high ∙ ap (late_bit (slice_index frame 12)) (omega arith)))
        (never (slice_index frame 14) _ _ (later / 8 % 2) (bit_3 back high ∙ ap (late_bit (slice_index frame 14)) (omega arith))) k h where
          never : (x y d m : ℕ) → m ≡ late_bit x 0 → moved_byte m d y ≡ d
          never x y d m e = grind (arith, e)

    odd_moved : (k : ℕ) → k < 8 → slice_index moves (2 * k + 1) ≡ at first last (2 * k + 1)
    odd_moved k h = eight (λ k. slice_index moves (2 * k + 1) ≡ at first last (2 * k + 1)) refl refl refl refl refl refl refl refl k h

    -- with what is at those indexes
    even_with : (k a b : ℕ) → k < 8 → at first last (2 * k) ≡ a → at first last (2 * k + 1) ≡ b → slice_index moves (2 * k) ≡ (if is_late frame k then b else a)
    even_with k a b h e f =
        even_moved k h ∙ ap (λ (x : ℕ). if is_late frame k then x else at first last (2 * k)) f ∙ ap (λ (x : ℕ). if is_late frame k then b else x) e

  -- the data, and where they are
  pub even_data_moved : (k : ℕ) → k < 8 → slice_index (moves first_mended last_mended) (2 * k) ≡ byte_in frame k
  even_data_moved k h = even_with first_mended last_mended k _ _ h (even_mended k h) (odd_mended k h)

  pub odd_data_moved : (k : ℕ) → k < 8 → slice_index (moves first_mended last_mended) (2 * k + 1) ≡ slice_index frame (2 * k + 1)
  odd_data_moved k h = odd_moved first_mended last_mended k h ∙ odd_mended k h

  pub even_place_moved : (behind : List ℕ) (k : ℕ) → k < 8 → slice_index (moves (first_bytes behind) (last_bytes behind)) (2 * k) ≡ place_in frame behind k
  even_place_moved behind k h = even_with (first_bytes behind) (last_bytes behind) k _ _ h (even_half behind k h) (odd_half behind k h)

  pub odd_place_moved : (behind : List ℕ) (k : ℕ) → k < 8 → slice_index (moves (first_bytes behind) (last_bytes behind)) (2 * k + 1) ≡ slice_index behind (2 * k + 1)
  odd_place_moved behind k h = odd_moved (first_bytes behind) (last_bytes behind) k h ∙ odd_half behind k h
