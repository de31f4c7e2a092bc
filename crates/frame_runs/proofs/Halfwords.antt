-- The low bits of the halfwords of a word.
use Rattle.std.proofs.Common.{◌≡◌, ℕ, zero, suc, ◌+◌, ◌-◌, ◌*◌, ◌/◌, ◌%◌, ◌<◌, List, [], ◌∷◌, refl, ◌∙◌, ap, arith, true, get_or, bit_and}
use Rattle.std.specs.Prelude.{slice_index, ◌==◌}
use Rattle.std.specs.Int.{w64, from_le_bytes, to_le_bytes}
use Rattle.std.proofs.lemmas.Bool.{agree_below_at, eqb-true}
use Rattle.std.proofs.lemmas.Nat.{and_block, and_mask, le_bytes_8}
use Rattle.frame_runs.specs.Data.{lowest, spread_bits, with_bit, with_bits}

-- one halfword
low_step : (h r m : ℕ) → r < 65536 → bit_and (h * 65536 + r) (m * 65536 + 1) ≡ bit_and h m * 65536 + r % 2
low_step h r m l = and_block 16 h m r 1 l (omega arith) ∙ ap (λ (x : ℕ). bit_and h m * 65536 + x) (and_mask r 1)

-- and four
four_lows : (a b c d : ℕ) → a < 65536 → b < 65536 → c < 65536 →
    bit_and (((d * 65536 + c) * 65536 + b) * 65536 + a) 0x1000100010001 ≡ ((d % 2 * 65536 + c % 2) * 65536 + b % 2) * 65536 + a % 2
four_lows a b c d p q r =
    low_step ((d * 65536 + c) * 65536 + b) a 0x100010001 p
    ∙ ap (λ (x : ℕ). x * 65536 + a % 2) (low_step (d * 65536 + c) b 0x10001 q
    ∙ ap (λ (x : ℕ). x * 65536 + b % 2) (low_step d c 1 r
    ∙ ap (λ (x : ℕ). x * 65536 + c % 2) (and_mask d 1)))

-- of a word of eight bytes
pub lows_are : (b0 b1 b2 b3 b4 b5 b6 b7 : ℕ) → b0 < 256 → b1 < 256 → b2 < 256 → b3 < 256 → b4 < 256 → b5 < 256 →
    bit_and (b0 + b1 * 256 + b2 * 65536 + b3 * 16777216 + b4 * 4294967296 + b5 * 1099511627776 + b6 * 281474976710656 + b7 * 72057594037927936) 0x1000100010001
    ≡ b0 % 2 + b2 % 2 * 0x10000 + b4 % 2 * 0x100000000 + b6 % 2 * 0x1000000000000
lows_are b0 b1 b2 b3 b4 b5 b6 b7 l0 l1 l2 l3 l4 l5 =
    ap (λ (x : ℕ). bit_and x 0x1000100010001) (word b0 b1 b2 b3 b4 b5 b6 b7)
    ∙ four_lows (b0 + b1 * 256) (b2 + b3 * 256) (b4 + b5 * 256) (b6 + b7 * 256) (omega arith) (omega arith) (omega arith)
    ∙ parts b0 b1 b2 b3 b4 b5 b6 b7 where
      word : (b0 b1 b2 b3 b4 b5 b6 b7 : ℕ) →
          b0 + b1 * 256 + b2 * 65536 + b3 * 16777216 + b4 * 4294967296 + b5 * 1099511627776 + b6 * 281474976710656 + b7 * 72057594037927936
          ≡ (((b6 + b7 * 256) * 65536 + (b4 + b5 * 256)) * 65536 + (b2 + b3 * 256)) * 65536 + (b0 + b1 * 256)
      word b0 b1 b2 b3 b4 b5 b6 b7 = omega arith

      parts : (b0 b1 b2 b3 b4 b5 b6 b7 : ℕ) →
          (((b6 + b7 * 256) % 2 * 65536 + (b4 + b5 * 256) % 2) * 65536 + (b2 + b3 * 256) % 2) * 65536 + (b0 + b1 * 256) % 2
          ≡ b0 % 2 + b2 % 2 * 0x10000 + b4 % 2 * 0x100000000 + b6 % 2 * 0x1000000000000
      parts b0 b1 b2 b3 b4 b5 b6 b7 = omega arith

-- the product and the mask spread each number of four bits
pub spread_is : (n : ℕ) → n < 16 → bit_and (n * 35185445863425) 0x1000100010001 ≡ spread_bits n
spread_is n l =
    eqb-true _ _ (agree_below_at (λ (k : ℕ). bit_and (k * 35185445863425) 0x1000100010001 == spread_bits k) (λ (k : ℕ). true) 16 n refl l)

-- bytes one by one
pub record AreBytes (xs : List ℕ) : Type 0 where
  pub at : (i : ℕ) → get_or xs i 0 < 256

pub one_more : {x : ℕ} {xs : List ℕ} → x < 256 → AreBytes xs → AreBytes (x ∷ xs)
one_more {x} {xs} h rest = record { at = by } where
  by : (i : ℕ) → get_or (x ∷ xs) i 0 < 256
  by zero = h
  by (suc i) = rest.at i

pub no_more : AreBytes []
no_more = record { at = λ i. omega arith }

small_with : (x bit : ℕ) → x < 256 → with_bit x (bit % 2) < 256
small_with x bit l = omega arith

-- all of them
with_bytes : (bytes : List ℕ) (bits : ℕ) → ((i : ℕ) → slice_index bytes i < 256) → AreBytes (with_bits bytes bits)
with_bytes bytes bits small =
    one_more (small_with (slice_index bytes 0) bits (small 0)) (one_more (small 1)
    (one_more (small_with (slice_index bytes 2) (bits / 2) (small 2)) (one_more (small 3)
    (one_more (small_with (slice_index bytes 4) (bits / 4) (small 4)) (one_more (small 5)
    (one_more (small_with (slice_index bytes 6) (bits / 8) (small 6)) (one_more (small 7) no_more)))))))

-- the bytes of a sum with the bits in place of those that were
pub sum_bytes : (bytes : List ℕ) (n bits : ℕ) → ((i : ℕ) → slice_index bytes i < 256) → bits < 16 →
    n ≡ from_le_bytes w64 bytes - lowest bytes + spread_bits bits → to_le_bytes w64 n ≡ with_bits bytes bits
sum_bytes bytes n bits small few e = le_bytes_8 (with_bits bytes bits) n refl (with_bytes bytes bits small).at (omega arith)
