-- Bytes of a word that are moved one place to the front by masks.
use Rattle.std.proofs.Common.{◌≡◌, ℕ, zero, suc, ◌+◌, ◌-◌, ◌*◌, ◌/◌, ◌%◌, ◌^◌, ◌<◌, List, [], ◌∷◌, refl, sym, ◌∙◌, ap, arith, bit_and, bit_or}
use Rattle.std.specs.Prelude.{slice_index}
use Rattle.std.specs.Int.{w64, from_le_bytes, to_le_bytes}
use Rattle.std.proofs.lemmas.Nat.{and_block, or_block, and_mask, or_shifted, and_le_l, le_bytes_8}
use Rattle.std.proofs.lemmas.Nat.Bits.{and_high}
use Rattle.frame_runs.specs.Data.{lowest, spread_bits, masks, late_bit, late_bits, moved_byte, moved_bytes}
use Rattle.frame_runs.proofs.Halfwords.{AreBytes, one_more, no_more}

-- what is kept of one number, and taken of another
abbrev mixed : ℕ → ℕ → ℕ → ℕ → ℕ
mixed a b c d = bit_or (bit_and a b) (bit_and c d)

-- halfword by halfword
mixed_step : (g h i j a b c d : ℕ) → a < 65536 → b < 65536 → c < 65536 → d < 65536 →
    mixed (g * 65536 + a) (h * 65536 + b) (i * 65536 + c) (j * 65536 + d) ≡ mixed g h i j * 65536 + mixed a b c d
mixed_step g h i j a b c d p q r s =
    ap (λ (x : ℕ). bit_or x (bit_and (i * 65536 + c) (j * 65536 + d))) (and_block 16 g h a b p q)
    ∙ ap (bit_or (bit_and g h * 65536 + bit_and a b)) (and_block 16 i j c d r s)
    ∙ or_block 16 (bit_and g h) (bit_and i j) (bit_and a b) (bit_and c d) (omega (arith, and_le_l a b)) (omega (arith, and_le_l c d))

-- one halfword: its bytes, and the byte behind it
mixed_one : (x y z p : ℕ) → x < 256 → y < 256 → z < 256 → p < 2 →
    mixed (x + y * 256) (65535 - p * 255) (y + z * 256) (p * 255) ≡ moved_byte p x y + y * 256
mixed_one x y z zero k l m few =
    ap (λ (n : ℕ). bit_or n (bit_and (y + z * 256) 0)) (and_mask (x + y * 256) 16)
    ∙ ap (bit_or ((x + y * 256) % 65536)) (and_mask (y + z * 256) 0)
    ∙ ap (λ (n : ℕ). bit_or n ((y + z * 256) % 1)) (unshifted ((x + y * 256) % 65536))
    ∙ or_shifted ((x + y * 256) % 65536) 0 ((y + z * 256) % 1) (omega arith)
    ∙ omega arith where
      unshifted : (n : ℕ) → n ≡ n * 2 ^ 0
      unshifted n = omega arith
mixed_one x y z (suc zero) k l m few =
    ap (λ (n : ℕ). bit_or n (bit_and (y + z * 256) 255)) (and_high (x + y * 256) 8 8)
    ∙ ap (bit_or ((x + y * 256) / 256 % 256 * 256)) (and_mask (y + z * 256) 8)
    ∙ or_shifted ((x + y * 256) / 256 % 256) 8 ((y + z * 256) % 256) (omega arith)
    ∙ omega arith
mixed_one x y z (suc (suc p)) k l m few = absurd (omega arith)

same_mixed : (a b c d e f g h : ℕ) → a ≡ e → b ≡ f → c ≡ g → d ≡ h → mixed a b c d ≡ mixed e f g h
same_mixed a b c d e f g h p q r s =
    ap (λ (x : ℕ). mixed x b c d) p ∙ ap (λ (x : ℕ). mixed e x c d) q ∙ ap (λ (x : ℕ). mixed e f x d) r ∙ ap (mixed e f g) s

-- four halfwords
abbrev four : ℕ → ℕ → ℕ → ℕ → ℕ
four a b c d = ((d * 65536 + c) * 65536 + b) * 65536 + a

mixed_four : (x0 x1 x2 x3 m0 m1 m2 m3 s0 s1 s2 s3 l0 l1 l2 l3 : ℕ) → x0 < 65536 → x1 < 65536 → x2 < 65536 → m0 < 65536 → m1 < 65536 → m2 < 65536 →
    s0 < 65536 → s1 < 65536 → s2 < 65536 → l0 < 65536 → l1 < 65536 → l2 < 65536 →
    mixed (four x0 x1 x2 x3) (four m0 m1 m2 m3) (four s0 s1 s2 s3) (four l0 l1 l2 l3)
    ≡ four (mixed x0 m0 s0 l0) (mixed x1 m1 s1 l1) (mixed x2 m2 s2 l2) (mixed x3 m3 s3 l3)
mixed_four x0 x1 x2 x3 m0 m1 m2 m3 s0 s1 s2 s3 l0 l1 l2 l3 a0 a1 a2 b0 b1 b2 c0 c1 c2 d0 d1 d2 =
    mixed_step ((x3 * 65536 + x2) * 65536 + x1) ((m3 * 65536 + m2) * 65536 + m1) ((s3 * 65536 + s2) * 65536 + s1) ((l3 * 65536 + l2) * 65536 + l1) x0 m0 s0 l0 a0 b0 c0 d0
    ∙ ap (λ (x : ℕ). x * 65536 + mixed x0 m0 s0 l0) (mixed_step (x3 * 65536 + x2) (m3 * 65536 + m2) (s3 * 65536 + s2) (l3 * 65536 + l2) x1 m1 s1 l1 a1 b1 c1 d1
    ∙ ap (λ (x : ℕ). x * 65536 + mixed x1 m1 s1 l1) (mixed_step x3 m3 s3 l3 x2 m2 s2 l2 a2 b2 c2 d2))

same_four : (a b c d e f g h : ℕ) → a ≡ e → b ≡ f → c ≡ g → d ≡ h → four a b c d ≡ four e f g h
same_four a b c d e f g h p q r s = omega (arith, p, q, r, s)

-- of a word of eight bytes
moved_word : (b0 b1 b2 b3 b4 b5 b6 b7 n : ℕ) → b0 < 256 → b1 < 256 → b2 < 256 → b3 < 256 → b4 < 256 → b5 < 256 → b6 < 256 → b7 < 256 → n < 16 →
    mixed (b0 + b1 * 256 + b2 * 65536 + b3 * 16777216 + b4 * 4294967296 + b5 * 1099511627776 + b6 * 281474976710656 + b7 * 72057594037927936)
    (18446744073709551615 - masks n)
    ((b0 + b1 * 256 + b2 * 65536 + b3 * 16777216 + b4 * 4294967296 + b5 * 1099511627776 + b6 * 281474976710656 + b7 * 72057594037927936) / 256)
    (masks n)
    ≡ four (moved_byte (n % 2) b0 b1 + b1 * 256) (moved_byte (n / 2 % 2) b2 b3 + b3 * 256)
    (moved_byte (n / 4 % 2) b4 b5 + b5 * 256) (moved_byte (n / 8 % 2) b6 b7 + b7 * 256)
moved_word b0 b1 b2 b3 b4 b5 b6 b7 n h0 h1 h2 h3 h4 h5 h6 h7 few =
    same_mixed _ _ _ _ (four (b0 + b1 * 256) (b2 + b3 * 256) (b4 + b5 * 256) (b6 + b7 * 256))
    (four (65535 - n % 2 * 255) (65535 - n / 2 % 2 * 255) (65535 - n / 4 % 2 * 255) (65535 - n / 8 % 2 * 255))
    (four (b1 + b2 * 256) (b3 + b4 * 256) (b5 + b6 * 256) (b7 + 0 * 256))
    (four (n % 2 * 255) (n / 2 % 2 * 255) (n / 4 % 2 * 255) (n / 8 % 2 * 255))
    (word b0 b1 b2 b3 b4 b5 b6 b7) (rest (n % 2) (n / 2 % 2) (n / 4 % 2) (n / 8 % 2) (omega arith) (omega arith) (omega arith) (omega arith))
    (behind b0 b1 b2 b3 b4 b5 b6 b7 h0) (mask (n % 2) (n / 2 % 2) (n / 4 % 2) (n / 8 % 2))
    ∙ mixed_four (b0 + b1 * 256) (b2 + b3 * 256) (b4 + b5 * 256) (b6 + b7 * 256)
    (65535 - n % 2 * 255) (65535 - n / 2 % 2 * 255) (65535 - n / 4 % 2 * 255) (65535 - n / 8 % 2 * 255)
    (b1 + b2 * 256) (b3 + b4 * 256) (b5 + b6 * 256) (b7 + 0 * 256)
    (n % 2 * 255) (n / 2 % 2 * 255) (n / 4 % 2 * 255) (n / 8 % 2 * 255)
    (omega arith) (omega arith) (omega arith) (omega arith) (omega arith) (omega arith)
    (omega arith) (omega arith) (omega arith) (omega arith) (omega arith) (omega arith)
    ∙ same_four _ _ _ _ _ _ _ _ (mixed_one b0 b1 b2 (n % 2) h0 h1 h2 (omega arith)) (mixed_one b2 b3 b4 (n / 2 % 2) h2 h3 h4 (omega arith))
    (mixed_one b4 b5 b6 (n / 4 % 2) h4 h5 h6 (omega arith)) (mixed_one b6 b7 0 (n / 8 % 2) h6 h7 (omega arith) (omega arith)) where
      word : (b0 b1 b2 b3 b4 b5 b6 b7 : ℕ) →
          b0 + b1 * 256 + b2 * 65536 + b3 * 16777216 + b4 * 4294967296 + b5 * 1099511627776 + b6 * 281474976710656 + b7 * 72057594037927936
          ≡ four (b0 + b1 * 256) (b2 + b3 * 256) (b4 + b5 * 256) (b6 + b7 * 256)
      word b0 b1 b2 b3 b4 b5 b6 b7 = omega arith

      behind : (b0 b1 b2 b3 b4 b5 b6 b7 : ℕ) → b0 < 256 →
          (b0 + b1 * 256 + b2 * 65536 + b3 * 16777216 + b4 * 4294967296 + b5 * 1099511627776 + b6 * 281474976710656 + b7 * 72057594037927936) / 256
          ≡ four (b1 + b2 * 256) (b3 + b4 * 256) (b5 + b6 * 256) (b7 + 0 * 256)
      behind b0 b1 b2 b3 b4 b5 b6 b7 h = omega arith

      mask : (p q r s : ℕ) → (p + q * 0x10000 + r * 0x100000000 + s * 0x1000000000000) * 255 ≡ four (p * 255) (q * 255) (r * 255) (s * 255)
      mask p q r s = omega arith

      rest : (p q r s : ℕ) → p < 2 → q < 2 → r < 2 → s < 2 → 18446744073709551615 - (p + q * 0x10000 + r * 0x100000000 + s * 0x1000000000000) * 255
          ≡ four (65535 - p * 255) (65535 - q * 255) (65535 - r * 255) (65535 - s * 255)
      rest p q r s a b c d = omega arith

small_moved : (p x y : ℕ) → x < 256 → y < 256 → moved_byte p x y < 256
small_moved p x y k l = grind arith

moved_small : (bytes : List ℕ) (n : ℕ) → ((i : ℕ) → slice_index bytes i < 256) → AreBytes (moved_bytes bytes n)
moved_small bytes n small =
    one_more (small_moved (n % 2) _ _ (small 0) (small 1)) (one_more (small 1)
    (one_more (small_moved (n / 2 % 2) _ _ (small 2) (small 3)) (one_more (small 3)
    (one_more (small_moved (n / 4 % 2) _ _ (small 4) (small 5)) (one_more (small 5)
    (one_more (small_moved (n / 8 % 2) _ _ (small 6) (small 7)) (one_more (small 7) no_more)))))))

pub moved_are : (bytes : List ℕ) (word late : ℕ) → ((i : ℕ) → slice_index bytes i < 256) → word ≡ from_le_bytes w64 bytes →
    (n : ℕ) → n < 16 → late ≡ masks n → to_le_bytes w64 (mixed word (18446744073709551615 - late) (word / 256) late) ≡ moved_bytes bytes n
moved_are bytes word late small e n few f =
    le_bytes_8 (moved_bytes bytes n) (mixed word (18446744073709551615 - late) (word / 256) late) refl (moved_small bytes n small).at
    (same_mixed word (18446744073709551615 - late) (word / 256) late _ _ _ _ e (ap (λ (x : ℕ). 18446744073709551615 - x) f) (ap (λ (x : ℕ). x / 256) e) f
    ∙ moved_word (slice_index bytes 0) (slice_index bytes 1) (slice_index bytes 2) (slice_index bytes 3)
    (slice_index bytes 4) (slice_index bytes 5) (slice_index bytes 6) (slice_index bytes 7) n
    (small 0) (small 1) (small 2) (small 3) (small 4) (small 5) (small 6) (small 7) few
    ∙ whole (moved_byte (n % 2) (slice_index bytes 0) (slice_index bytes 1)) (slice_index bytes 1)
    (moved_byte (n / 2 % 2) (slice_index bytes 2) (slice_index bytes 3)) (slice_index bytes 3)
    (moved_byte (n / 4 % 2) (slice_index bytes 4) (slice_index bytes 5)) (slice_index bytes 5)
    (moved_byte (n / 8 % 2) (slice_index bytes 6) (slice_index bytes 7)) (slice_index bytes 7)) where
      whole : (b0 b1 b2 b3 b4 b5 b6 b7 : ℕ) → four (b0 + b1 * 256) (b2 + b3 * 256) (b4 + b5 * 256) (b6 + b7 * 256)
          ≡ from_le_bytes w64 (b0 ∷ b1 ∷ b2 ∷ b3 ∷ b4 ∷ b5 ∷ b6 ∷ b7 ∷ [])
      whole b0 b1 b2 b3 b4 b5 b6 b7 = omega arith

-- the masks: bit by bit
and_bits : (h r g s : ℕ) → r < 2 → s < 2 → bit_and (h * 65536 + r) (g * 65536 + s) ≡ bit_and h g * 65536 + bit_and r s
and_bits h r g s k l = and_block 16 h g r s (omega arith) (omega arith)

one_late : (x bit : ℕ) → bit < 2 → bit_and (x % 2) bit ≡ late_bit x bit
one_late x zero few = and_mask (x % 2) 0 ∙ grind arith
one_late x (suc zero) few = and_mask (x % 2) 1 ∙ grind arith
one_late x (suc (suc bit)) few = absurd (omega arith)

pub small_late : (x bit : ℕ) → bit < 2 → late_bit x bit < 2
small_late x bit few = grind arith

late_word : (b0 b2 b4 b6 p q r s : ℕ) → p < 2 → q < 2 → r < 2 → s < 2 →
    bit_and (b0 % 2 + b2 % 2 * 0x10000 + b4 % 2 * 0x100000000 + b6 % 2 * 0x1000000000000) (p + q * 0x10000 + r * 0x100000000 + s * 0x1000000000000)
    ≡ late_bit b0 p + late_bit b2 q * 0x10000 + late_bit b4 r * 0x100000000 + late_bit b6 s * 0x1000000000000
late_word b0 b2 b4 b6 p q r s hp hq hr hs =
    ap (λ (x : ℕ). bit_and x (p + q * 0x10000 + r * 0x100000000 + s * 0x1000000000000)) (wide (b0 % 2) (b2 % 2) (b4 % 2) (b6 % 2))
    ∙ ap (bit_and (four (b0 % 2) (b2 % 2) (b4 % 2) (b6 % 2))) (wide p q r s)
    ∙ and_bits ((b6 % 2 * 65536 + b4 % 2) * 65536 + b2 % 2) (b0 % 2) ((s * 65536 + r) * 65536 + q) p (omega arith) hp
    ∙ ap (λ (x : ℕ). x * 65536 + bit_and (b0 % 2) p) (and_bits (b6 % 2 * 65536 + b4 % 2) (b2 % 2) (s * 65536 + r) q (omega arith) hq
    ∙ ap (λ (x : ℕ). x * 65536 + bit_and (b2 % 2) q) (and_bits (b6 % 2) (b4 % 2) s r (omega arith) hr))
    ∙ same_four _ _ _ _ _ _ _ _ (one_late b0 p hp) (one_late b2 q hq) (one_late b4 r hr) (one_late b6 s hs)
    ∙ sym (wide (late_bit b0 p) (late_bit b2 q) (late_bit b4 r) (late_bit b6 s)) where
      wide : (a b c d : ℕ) → a + b * 0x10000 + c * 0x100000000 + d * 0x1000000000000 ≡ four a b c d
      wide a b c d = omega arith

-- the four bits of a sum
module _ (a b c d : ℕ) (ha : a < 2) (hb : b < 2) (hc : c < 2) (hd : d < 2) where
  abbrev sum_of : ℕ
  sum_of = a + 2 * b + 4 * c + 8 * d

  pub sum_few : sum_of < 16
  sum_few = omega arith

  pub sum_0 : sum_of % 2 ≡ a
  sum_0 = omega arith

  pub sum_1 : sum_of / 2 % 2 ≡ b
  sum_1 = omega arith

  pub sum_2 : sum_of / 4 % 2 ≡ c
  sum_2 = omega arith

  pub sum_3 : sum_of / 8 % 2 ≡ d
  sum_3 = omega arith

spread_sum : (a b c d : ℕ) → a < 2 → b < 2 → c < 2 → d < 2 → a + b * 0x10000 + c * 0x100000000 + d * 0x1000000000000 ≡ spread_bits (a + 2 * b + 4 * c + 8 * d)
spread_sum a b c d ha hb hc hd =
    let e = sum_0 a b c d ha hb hc hd in let f = sum_1 a b c d ha hb hc hd in let g = sum_2 a b c d ha hb hc hd in let h = sum_3 a b c d ha hb hc hd in
    omega (arith, e, f, g, h)

pub late_few : (bytes : List ℕ) (bits : ℕ) → late_bits bytes bits < 16
late_few bytes bits =
    sum_few (late_bit (slice_index bytes 0) (bits % 2)) (late_bit (slice_index bytes 2) (bits / 2 % 2))
    (late_bit (slice_index bytes 4) (bits / 4 % 2)) (late_bit (slice_index bytes 6) (bits / 8 % 2))
    (small_late _ (bits % 2) (omega arith)) (small_late _ (bits / 2 % 2) (omega arith))
    (small_late _ (bits / 4 % 2) (omega arith)) (small_late _ (bits / 8 % 2) (omega arith))

pub late_is : (bytes : List ℕ) (bits : ℕ) → bit_and (lowest bytes) (spread_bits bits) ≡ spread_bits (late_bits bytes bits)
late_is bytes bits =
    late_word (slice_index bytes 0) (slice_index bytes 2) (slice_index bytes 4) (slice_index bytes 6)
    (bits % 2) (bits / 2 % 2) (bits / 4 % 2) (bits / 8 % 2) (omega arith) (omega arith) (omega arith) (omega arith)
    ∙ spread_sum _ _ _ _ (small_late _ (bits % 2) (omega arith)) (small_late _ (bits / 2 % 2) (omega arith))
    (small_late _ (bits / 4 % 2) (omega arith)) (small_late _ (bits / 8 % 2) (omega arith))
