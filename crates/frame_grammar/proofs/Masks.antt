-- Masks of words of eight bytes.
use Rattle.std.proofs.Common.{◌≡◌, ◌≢◌, ℕ, zero, suc, ◌+◌, ◌*◌, ◌/◌, ◌%◌, ◌<◌, List, refl, sym, ◌∙◌, ap, arith, true, bit_and}
use Rattle.std.specs.Prelude.{slice_index, ◌==◌}
use Rattle.std.specs.Int.{w64, from_le_bytes}
use Rattle.std.proofs.lemmas.Bool.{agree_below_at, eqb-true}
use Rattle.std.proofs.lemmas.Nat.{and_block, and_mask}
use Rattle.frame_grammar.specs.Frame.{IsProperBelow}

-- a word of four halfwords
abbrev pub halfwords : (a b c d : ℕ) → ℕ
halfwords a b c d = ((d * 65536 + c) * 65536 + b) * 65536 + a

-- of eight bytes
bytes_are : (b0 b1 b2 b3 b4 b5 b6 b7 : ℕ) →
    b0 + b1 * 256 + b2 * 65536 + b3 * 16777216 + b4 * 4294967296 + b5 * 1099511627776 + b6 * 281474976710656 + b7 * 72057594037927936
    ≡ halfwords (b0 + b1 * 256) (b2 + b3 * 256) (b4 + b5 * 256) (b6 + b7 * 256)
bytes_are b0 b1 b2 b3 b4 b5 b6 b7 = omega arith

-- the low byte of one halfword
even_step : (h r m : ℕ) → r < 65536 → bit_and (h * 65536 + r) (m * 65536 + 255) ≡ bit_and h m * 65536 + r % 256
even_step h r m l = and_block 16 h m r 255 l (omega arith) ∙ ap (λ (x : ℕ). bit_and h m * 65536 + x) (and_mask r 8)

-- and of four
evens : (a b c d : ℕ) → a < 65536 → b < 65536 → c < 65536 → bit_and (halfwords a b c d) 0xFF00FF00FF00FF ≡ halfwords (a % 256) (b % 256) (c % 256) (d % 256)
evens a b c d p q r =
    even_step ((d * 65536 + c) * 65536 + b) a 0xFF00FF00FF p
    ∙ ap (λ (x : ℕ). x * 65536 + a % 256) (even_step (d * 65536 + c) b 0xFF00FF q
    ∙ ap (λ (x : ℕ). x * 65536 + b % 256) (even_step d c 0xFF r
    ∙ ap (λ (x : ℕ). x * 65536 + c % 256) (and_mask d 8)))

pub evens_are : (b0 b1 b2 b3 b4 b5 b6 b7 : ℕ) → b0 < 256 → b1 < 256 → b2 < 256 → b3 < 256 → b4 < 256 → b5 < 256 → b6 < 256 →
    bit_and (b0 + b1 * 256 + b2 * 65536 + b3 * 16777216 + b4 * 4294967296 + b5 * 1099511627776 + b6 * 281474976710656 + b7 * 72057594037927936) 0xFF00FF00FF00FF
    ≡ halfwords b0 b2 b4 b6
evens_are b0 b1 b2 b3 b4 b5 b6 b7 l0 l1 l2 l3 l4 l5 l6 =
    ap (λ (x : ℕ). bit_and x 0xFF00FF00FF00FF) (bytes_are b0 b1 b2 b3 b4 b5 b6 b7)
    ∙ evens (b0 + b1 * 256) (b2 + b3 * 256) (b4 + b5 * 256) (b6 + b7 * 256) (omega arith) (omega arith) (omega arith)
    ∙ omega arith

-- bit 8 of a halfword of at most 256
carry : (r : ℕ) → r < 257 → bit_and r 256 ≡ r / 256 * 256
carry r l = eqb-true _ _ (agree_below_at (λ (k : ℕ). bit_and k 256 == k / 256 * 256) (λ (k : ℕ). true) 257 r refl l)

carry_step : (h r m : ℕ) → r < 257 → bit_and (h * 65536 + r) (m * 65536 + 256) ≡ bit_and h m * 65536 + r / 256 * 256
carry_step h r m l = and_block 16 h m r 256 (omega arith) (omega arith) ∙ ap (λ (x : ℕ). bit_and h m * 65536 + x) (carry r l)

pub carries_are : (a b c d : ℕ) → a < 257 → b < 257 → c < 257 → d < 257 →
    bit_and (halfwords a b c d) 0x100010001000100 ≡ halfwords (a / 256 * 256) (b / 256 * 256) (c / 256 * 256) (d / 256 * 256)
carries_are a b c d p q r s =
    carry_step ((d * 65536 + c) * 65536 + b) a 0x10001000100 p
    ∙ ap (λ (x : ℕ). x * 65536 + a / 256 * 256) (carry_step (d * 65536 + c) b 0x1000100 q
    ∙ ap (λ (x : ℕ). x * 65536 + b / 256 * 256) (carry_step d c 0x100 r
    ∙ ap (λ (x : ℕ). x * 65536 + c / 256 * 256) (carry d s)))

-- four bytes at even indexes
pub proper_four : (xs : List ℕ) → slice_index xs 0 ≢ 255 → slice_index xs 2 ≢ 255 → slice_index xs 4 ≢ 255 → slice_index xs 6 ≢ 255 → IsProperBelow 4 xs
proper_four xs p q r s zero l = p
proper_four xs p q r s (suc zero) l = q
proper_four xs p q r s (suc (suc zero)) l = r
proper_four xs p q r s (suc (suc (suc zero))) l = s
proper_four xs p q r s (suc (suc (suc (suc k)))) l = absurd (omega arith)

-- none of them is FF exactly where nothing is carried
pub none_carried : (a b c d : ℕ) → halfwords ((a + 1) / 256 * 256) ((b + 1) / 256 * 256) ((c + 1) / 256 * 256) ((d + 1) / 256 * 256) ≡ 0 →
    (a ≢ 255) × ((b ≢ 255) × ((c ≢ 255) × (d ≢ 255)))
none_carried a b c d e = ((λ f. omega arith), ((λ f. omega arith), ((λ f. omega arith), (λ f. omega arith))))

pub carries_nothing : (a b c d : ℕ) → a < 256 → b < 256 → c < 256 → d < 256 → a ≢ 255 → b ≢ 255 → c ≢ 255 → d ≢ 255 →
    halfwords ((a + 1) / 256 * 256) ((b + 1) / 256 * 256) ((c + 1) / 256 * 256) ((d + 1) / 256 * 256) ≡ 0
carries_nothing a b c d l m n o p q r s = omega arith

one_more : (a b c d : ℕ) → halfwords a b c d + 0x1000100010001 ≡ halfwords (a + 1) (b + 1) (c + 1) (d + 1)
one_more a b c d = omega arith

-- what is carried out of the low bytes of a word's halfwords, with one more in each
module _ (xs : List ℕ) (n : ℕ) (small : (i : ℕ) → slice_index xs i < 256) (is : n ≡ from_le_bytes w64 xs) where
  carried : bit_and (bit_and n 0xFF00FF00FF00FF + 0x1000100010001) 0x100010001000100
      ≡ halfwords ((slice_index xs 0 + 1) / 256 * 256) ((slice_index xs 2 + 1) / 256 * 256) ((slice_index xs 4 + 1) / 256 * 256) ((slice_index xs 6 + 1) / 256 * 256)
  carried =
      let s0 = small 0 in let s2 = small 2 in let s4 = small 4 in let s6 = small 6 in
      ap (λ (x : ℕ). bit_and (x + 0x1000100010001) 0x100010001000100)
      (ap (λ (x : ℕ). bit_and x 0xFF00FF00FF00FF) is
      ∙ evens_are (slice_index xs 0) (slice_index xs 1) (slice_index xs 2) (slice_index xs 3) (slice_index xs 4) (slice_index xs 5) (slice_index xs 6) (slice_index xs 7)
      (small 0) (small 1) (small 2) (small 3) (small 4) (small 5) (small 6))
      ∙ ap (λ (x : ℕ). bit_and x 0x100010001000100) (one_more (slice_index xs 0) (slice_index xs 2) (slice_index xs 4) (slice_index xs 6))
      ∙ carries_are (slice_index xs 0 + 1) (slice_index xs 2 + 1) (slice_index xs 4 + 1) (slice_index xs 6 + 1) (omega arith) (omega arith) (omega arith) (omega arith)

  pub proper_if : bit_and (bit_and n 0xFF00FF00FF00FF + 0x1000100010001) 0x100010001000100 ≡ 0 → IsProperBelow 4 xs
  proper_if e =
      let r = none_carried (slice_index xs 0) (slice_index xs 2) (slice_index xs 4) (slice_index xs 6) (sym carried ∙ e) in
      proper_four xs r.0 r.1.0 r.1.1.0 r.1.1.1

  pub only_proper : IsProperBelow 4 xs → bit_and (bit_and n 0xFF00FF00FF00FF + 0x1000100010001) 0x100010001000100 ≡ 0
  only_proper p =
      carried
      ∙ carries_nothing (slice_index xs 0) (slice_index xs 2) (slice_index xs 4) (slice_index xs 6) (small 0) (small 2) (small 4) (small 6)
      (p 0 (omega arith)) (p 1 (omega arith)) (p 2 (omega arith)) (p 3 (omega arith))

-- a whole halfword
whole_step : (h r m : ℕ) → r < 65536 → bit_and (h * 65536 + r) (m * 65536 + 65535) ≡ bit_and h m * 65536 + r
whole_step h r m l = and_block 16 h m r 65535 l (omega arith) ∙ ap (λ (x : ℕ). bit_and h m * 65536 + x) (and_mask r 16 ∙ omega arith)

seen : (a b c d : ℕ) → a < 65536 → b < 65536 → c < 65536 → d < 65536 → bit_and (halfwords a b c d) 0xFFFF00FFFFFF00FF ≡ halfwords (a % 256) b (c % 256) d
seen a b c d p q r s =
    even_step ((d * 65536 + c) * 65536 + b) a 0xFFFF00FFFFFF p
    ∙ ap (λ (x : ℕ). x * 65536 + a % 256) (whole_step (d * 65536 + c) b 0xFFFF00FF q
    ∙ ap (λ (x : ℕ). x * 65536 + b) (even_step d c 0xFFFF r
    ∙ ap (λ (x : ℕ). x * 65536 + c % 256) (and_mask d 16 ∙ omega arith)))

-- a halfword of at most 256 without its low byte
high : (r : ℕ) → r < 257 → bit_and r 65280 ≡ r / 256 * 256
high r l = eqb-true _ _ (agree_below_at (λ (k : ℕ). bit_and k 65280 == k / 256 * 256) (λ (k : ℕ). true) 257 r refl l)

high_step : (h r m : ℕ) → r < 257 → bit_and (h * 65536 + r) (m * 65536 + 65280) ≡ bit_and h m * 65536 + r / 256 * 256
high_step h r m l = and_block 16 h m r 65280 (omega arith) (omega arith) ∙ ap (λ (x : ℕ). bit_and h m * 65536 + x) (high r l)

gaps : (a b c d : ℕ) → a < 257 → b < 65536 → c < 257 → d < 65536 → bit_and (halfwords a b c d) 0xFFFFFF00FFFFFF00 ≡ halfwords (a / 256 * 256) b (c / 256 * 256) d
gaps a b c d p q r s =
    high_step ((d * 65536 + c) * 65536 + b) a 0xFFFFFF00FFFF p
    ∙ ap (λ (x : ℕ). x * 65536 + a / 256 * 256) (whole_step (d * 65536 + c) b 0xFFFFFF00 q
    ∙ ap (λ (x : ℕ). x * 65536 + b) (high_step d c 0xFFFF r
    ∙ ap (λ (x : ℕ). x * 65536 + c / 256 * 256) (and_mask d 16 ∙ omega arith)))

two_more : (a b c d : ℕ) → halfwords a b c d + 0x100000001 ≡ halfwords (a + 1) b (c + 1) d
two_more a b c d = omega arith

low_of : (a b : ℕ) → a < 256 → (a + b * 256) % 256 ≡ a
low_of a b l = omega arith

fits_half : (a b : ℕ) → a < 256 → b < 256 → a + b * 256 < 65536
fits_half a b l m = omega arith

-- two halfwords with a half synchronisation after each
pub record IsSpacedWord (xs : List ℕ) : Type 0 where
  pub word_0 : slice_index xs 0 ≢ 255
  pub gap_2 : slice_index xs 2 ≡ 255
  pub gap_3 : slice_index xs 3 ≡ 127
  pub word_4 : slice_index xs 4 ≢ 255
  pub gap_6 : slice_index xs 6 ≡ 255
  pub gap_7 : slice_index xs 7 ≡ 127

-- where a sum of four halfwords is that of the half synchronisations
record AreHalves (a b c d : ℕ) : Type 0 where
  first : a ≢ 255
  second : b ≡ 32767
  third : c ≢ 255
  fourth : d ≡ 32767

are_halves : (a b c d : ℕ) → a < 256 → b < 65536 → c < 256 → d < 65536 → halfwords ((a + 1) / 256 * 256) b ((c + 1) / 256 * 256) d ≡ 0x7FFF00007FFF0000 → AreHalves a b c d
are_halves a b c d p q r s e = record { first = λ f. omega arith; second = omega arith; third = λ f. omega arith; fourth = omega arith }

is_half : (a b : ℕ) → a < 256 → b < 256 → a + b * 256 ≡ 32767 → (a ≡ 255) × (b ≡ 127)
is_half a b l m e = (omega arith, omega arith)

module _ (xs : List ℕ) (n : ℕ) (small : (i : ℕ) → slice_index xs i < 256) (is : n ≡ from_le_bytes w64 xs) where
  abbrev half : ℕ → ℕ
  half i = slice_index xs i + slice_index xs (i + 1) * 256

  seen_is : bit_and n 0xFFFF00FFFFFF00FF ≡ halfwords (slice_index xs 0) (half 2) (slice_index xs 4) (half 6)
  seen_is =
      ap (λ (x : ℕ). bit_and x 0xFFFF00FFFFFF00FF)
      (is ∙ bytes_are (slice_index xs 0) (slice_index xs 1) (slice_index xs 2) (slice_index xs 3) (slice_index xs 4) (slice_index xs 5) (slice_index xs 6) (slice_index xs 7))
      ∙ seen (half 0) (half 2) (half 4) (half 6) (fits_half _ _ (small 0) (small 1)) (fits_half _ _ (small 2) (small 3)) (fits_half _ _ (small 4) (small 5)) (fits_half _ _ (small 6) (small 7))
      ∙ ap (λ (x : ℕ). halfwords x (half 2) (half 4 % 256) (half 6)) (low_of (slice_index xs 0) (slice_index xs 1) (small 0))
      ∙ ap (λ (x : ℕ). halfwords (slice_index xs 0) (half 2) x (half 6)) (low_of (slice_index xs 4) (slice_index xs 5) (small 4))

  pub spaced_if : bit_and (bit_and n 0xFFFF00FFFFFF00FF + 0x100000001) 0xFFFFFF00FFFFFF00 ≡ 0x7FFF00007FFF0000 → IsSpacedWord xs
  spaced_if e =
      let s0 = small 0 in
      let s4 = small 4 in
      let h2 = fits_half (slice_index xs 2) (slice_index xs 3) (small 2) (small 3) in
      let h6 = fits_half (slice_index xs 6) (slice_index xs 7) (small 6) (small 7) in
      let made = ap (λ (x : ℕ). bit_and (x + 0x100000001) 0xFFFFFF00FFFFFF00) seen_is
      ∙ ap (λ (x : ℕ). bit_and x 0xFFFFFF00FFFFFF00) (two_more (slice_index xs 0) (half 2) (slice_index xs 4) (half 6))
      ∙ gaps (slice_index xs 0 + 1) (half 2) (slice_index xs 4 + 1) (half 6) (omega arith) h2 (omega arith) h6 in
      let h = are_halves (slice_index xs 0) (half 2) (slice_index xs 4) (half 6) (small 0) h2 (small 4) h6 (sym made ∙ e) in
      let f = is_half (slice_index xs 2) (slice_index xs 3) (small 2) (small 3) h.second in
      let g = is_half (slice_index xs 6) (slice_index xs 7) (small 6) (small 7) h.fourth in
      record { word_0 = h.first; gap_2 = f.0; gap_3 = f.1; word_4 = h.third; gap_6 = g.0; gap_7 = g.1 }

pub spaced_words : (xs : List ℕ) → IsSpacedWord xs → (k : ℕ) → k < 2 → slice_index xs (4 * k) ≢ 255
spaced_words xs s zero l = s.word_0
spaced_words xs s (suc zero) l = s.word_4
spaced_words xs s (suc (suc k)) l = absurd (omega arith)

pub spaced_gaps : (xs : List ℕ) → IsSpacedWord xs → (k : ℕ) → k < 2 → (slice_index xs (4 * k + 2) ≡ 255) × (slice_index xs (4 * k + 3) ≡ 127)
spaced_gaps xs s zero l = (s.gap_2, s.gap_3)
spaced_gaps xs s (suc zero) l = (s.gap_6, s.gap_7)
spaced_gaps xs s (suc (suc k)) l = absurd (omega arith)
