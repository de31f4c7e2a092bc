-- Bytes that wait, as a number, and the word that they make with the bytes after them.
use Rattle.std.proofs.Common.{◌≡◌, ℕ, zero, suc, ◌+◌, ◌*◌, ◌/◌, ◌%◌, ◌^◌, ◌<◌, ◌≤◌, List, [], ◌∷◌, ◌++◌, length, take, get_or, refl, sym, ◌∙◌, ap, arith}
use Rattle.std.specs.Int.{w64, from_le_bytes, to_le_bytes}
use Rattle.std.proofs.lemmas.Nat.{le_bytes_8}
use Rattle.itm_codec.specs.Names.{bytes_of}
use Rattle.itm_codec.proofs.Zeros.{low_first}

pub count_of_bytes : (n v : ℕ) → length (bytes_of n v) ≡ n
count_of_bytes zero v = refl
count_of_bytes (suc n) v = ap suc (count_of_bytes n (v / 256))

-- the first bytes of a number
front_bytes : (n m v : ℕ) → n ≤ m → take n (bytes_of m v) ≡ bytes_of n v
front_bytes zero m v h = refl
front_bytes (suc n) zero v h = absurd (omega arith)
front_bytes (suc n) (suc m) v h = ap (λ (l : List ℕ). v % 256 ∷ l) (front_bytes n m (v / 256) (omega arith))

-- they are those of the number that they make
low_bytes : (n v : ℕ) → bytes_of n (v % 256 ^ n) ≡ bytes_of n v
low_bytes zero v = refl
low_bytes (suc n) v =
    let split : v ≡ v % 256 + 256 * (v / 256) = omega arith in
    let few : v % 256 < 256 = omega arith in
    let same : v % 256 ^ suc n ≡ v / 256 % 256 ^ n * 256 + v % 256 = ap (λ (x : ℕ). x % 256 ^ suc n) split ∙ low_first (v % 256) (v / 256) n few in
    let first : v % 256 ^ suc n % 256 ≡ v % 256 = omega (arith, same, few) in
    let rest : v % 256 ^ suc n / 256 ≡ v / 256 % 256 ^ n = omega (arith, same, few) in
    ap (λ (x : ℕ). x ∷ bytes_of n (v % 256 ^ suc n / 256)) first ∙ ap (λ (x : ℕ). v % 256 ∷ bytes_of n x) rest ∙ ap (λ (l : List ℕ). v % 256 ∷ l) (low_bytes n (v / 256))

word_bytes : (v : ℕ) → to_le_bytes w64 v ≡ bytes_of 8 v
word_bytes v =
    let e2 : v / 65536 ≡ v / 256 / 256 = omega arith in
    let e3 : v / 16777216 ≡ v / 256 / 256 / 256 = omega arith in
    let e4 : v / 4294967296 ≡ v / 256 / 256 / 256 / 256 = omega arith in
    let e5 : v / 1099511627776 ≡ v / 256 / 256 / 256 / 256 / 256 = omega arith in
    let e6 : v / 281474976710656 ≡ v / 256 / 256 / 256 / 256 / 256 / 256 = omega arith in
    let e7 : v / 72057594037927936 ≡ v / 256 / 256 / 256 / 256 / 256 / 256 / 256 = omega arith in
    cc

pub word_front : (n v : ℕ) → n ≤ 8 → take n (to_le_bytes w64 v) ≡ bytes_of n (v % 256 ^ n)
word_front n v h = ap (take n) (word_bytes v) ∙ front_bytes n 8 v h ∙ sym (low_bytes n v)

-- bytes after so many that wait have room in a word
pub room : (n held x : ℕ) → n ≤ 7 → held < 256 ^ n → held + x * 2 ^ (8 * n) % 18446744073709551616 < 18446744073709551616
room zero held x h f = omega (arith, f)
room (suc zero) held x h f = omega (arith, f)
room (suc (suc zero)) held x h f = omega (arith, f)
room (suc (suc (suc zero))) held x h f = omega (arith, f)
room (suc (suc (suc (suc zero)))) held x h f = omega (arith, f)
room (suc (suc (suc (suc (suc zero))))) held x h f = omega (arith, f)
room (suc (suc (suc (suc (suc (suc zero)))))) held x h f = omega (arith, f)
room (suc (suc (suc (suc (suc (suc (suc zero))))))) held x h f = omega (arith, f)
room (suc (suc (suc (suc (suc (suc (suc (suc n)))))))) held x h f = absurd (omega arith)

eight : (a b c d e f g h : ℕ) → a < 256 → b < 256 → c < 256 → d < 256 → e < 256 → f < 256 → g < 256 → h < 256 → (i : ℕ) → get_or (a ∷ (b ∷ (c ∷ (d ∷ (e ∷ (f ∷ (g ∷ (h ∷ [])))))))) i 0 < 256
eight a b c d e f g h la lb lc ld le lf lg lh zero = la
eight a b c d e f g h la lb lc ld le lf lg lh (suc zero) = lb
eight a b c d e f g h la lb lc ld le lf lg lh (suc (suc zero)) = lc
eight a b c d e f g h la lb lc ld le lf lg lh (suc (suc (suc zero))) = ld
eight a b c d e f g h la lb lc ld le lf lg lh (suc (suc (suc (suc zero)))) = le
eight a b c d e f g h la lb lc ld le lf lg lh (suc (suc (suc (suc (suc zero))))) = lf
eight a b c d e f g h la lb lc ld le lf lg lh (suc (suc (suc (suc (suc (suc zero)))))) = lg
eight a b c d e f g h la lb lc ld le lf lg lh (suc (suc (suc (suc (suc (suc (suc zero))))))) = lh
eight a b c d e f g h la lb lc ld le lf lg lh (suc (suc (suc (suc (suc (suc (suc (suc i)))))))) = omega arith

-- the word of the bytes that wait and of those after them
module _ (held x b0 b1 b2 b3 b4 b5 b6 b7 : ℕ) (l0 : b0 < 256) (l1 : b1 < 256) (l2 : b2 < 256) (l3 : b3 < 256) (l4 : b4 < 256) (l5 : b5 < 256) (l6 : b6 < 256) (l7 : b7 < 256)
    (e : x ≡ b0 + 256 * (b1 + 256 * (b2 + 256 * (b3 + 256 * (b4 + 256 * (b5 + 256 * (b6 + 256 * b7))))))) where
  by_count : (n : ℕ) → n ≤ 7 → held < 256 ^ n →
      to_le_bytes w64 (held + x * 2 ^ (8 * n) % 18446744073709551616) ≡ take 8 (bytes_of n held ++ (b0 ∷ (b1 ∷ (b2 ∷ (b3 ∷ (b4 ∷ (b5 ∷ (b6 ∷ (b7 ∷ [])))))))))
  by_count zero h f =
      le_bytes_8 (b0 ∷ (b1 ∷ (b2 ∷ (b3 ∷ (b4 ∷ (b5 ∷ (b6 ∷ (b7 ∷ [])))))))) _ refl
      (eight b0 b1 b2 b3 b4 b5 b6 b7 l0 l1 l2 l3 l4 l5 l6 l7)
      (omega (arith, e, f, l0, l1, l2, l3, l4, l5, l6, l7))
  by_count (suc zero) h f =
      le_bytes_8 (held % 256 ∷ (b0 ∷ (b1 ∷ (b2 ∷ (b3 ∷ (b4 ∷ (b5 ∷ (b6 ∷ [])))))))) _ refl
      (eight (held % 256) b0 b1 b2 b3 b4 b5 b6 (omega arith) l0 l1 l2 l3 l4 l5 l6)
      (omega (arith, e, f, l0, l1, l2, l3, l4, l5, l6, l7))
  by_count (suc (suc zero)) h f =
      le_bytes_8 (held % 256 ∷ (held / 256 % 256 ∷ (b0 ∷ (b1 ∷ (b2 ∷ (b3 ∷ (b4 ∷ (b5 ∷ [])))))))) _ refl
      (eight (held % 256) (held / 256 % 256) b0 b1 b2 b3 b4 b5 (omega arith) (omega arith) l0 l1 l2 l3 l4 l5)
      (omega (arith, e, f, l0, l1, l2, l3, l4, l5, l6, l7))
  by_count (suc (suc (suc zero))) h f =
      le_bytes_8 (held % 256 ∷ (held / 256 % 256 ∷ (held / 256 / 256 % 256 ∷ (b0 ∷ (b1 ∷ (b2 ∷ (b3 ∷ (b4 ∷ [])))))))) _ refl
      (eight (held % 256) (held / 256 % 256) (held / 256 / 256 % 256) b0 b1 b2 b3 b4 (omega arith) (omega arith) (omega arith) l0 l1 l2 l3 l4)
      (omega (arith, e, f, l0, l1, l2, l3, l4, l5, l6, l7))
  by_count (suc (suc (suc (suc zero)))) h f =
      le_bytes_8 (held % 256 ∷ (held / 256 % 256 ∷ (held / 256 / 256 % 256 ∷ (held / 256 / 256 / 256 % 256 ∷ (b0 ∷ (b1 ∷ (b2 ∷ (b3 ∷ [])))))))) _ refl
      (eight (held % 256) (held / 256 % 256) (held / 256 / 256 % 256) (held / 256 / 256 / 256 % 256) b0 b1 b2 b3 (omega arith) (omega arith) (omega arith) (omega arith) l0 l1 l2 l3)
      (omega (arith, e, f, l0, l1, l2, l3, l4, l5, l6, l7))
  by_count (suc (suc (suc (suc (suc zero))))) h f =
      le_bytes_8 (held % 256 ∷ (held / 256 % 256 ∷ (held / 256 / 256 % 256 ∷ (held / 256 / 256 / 256 % 256 ∷ (held / 256 / 256 / 256 / 256 % 256 ∷ (b0 ∷ (b1 ∷ (b2 ∷ [])))))))) _ refl
      (eight (held % 256) (held / 256 % 256) (held / 256 / 256 % 256) (held / 256 / 256 / 256 % 256) (held / 256 / 256 / 256 / 256 % 256) b0 b1 b2 (omega arith) (omega arith) (omega arith) (omega arith) (omega arith) l0 l1 l2)
      (omega (arith, e, f, l0, l1, l2, l3, l4, l5, l6, l7))
  by_count (suc (suc (suc (suc (suc (suc zero)))))) h f =
      le_bytes_8 (held % 256 ∷ (held / 256 % 256 ∷ (held / 256 / 256 % 256 ∷ (held / 256 / 256 / 256 % 256 ∷ (held / 256 / 256 / 256 / 256 % 256 ∷ (held / 256 / 256 / 256 / 256 / 256 % 256 ∷ (b0 ∷ (b1 ∷ [])))))))) _ refl
      (eight (held % 256) (held / 256 % 256) (held / 256 / 256 % 256) (held / 256 / 256 / 256 % 256) (held / 256 / 256 / 256 / 256 % 256) (held / 256 / 256 / 256 / 256 / 256 % 256) b0 b1 (omega arith) (omega arith) (omega arith) (omega arith) (omega arith) (omega arith) l0 l1)
      (omega (arith, e, f, l0, l1, l2, l3, l4, l5, l6, l7))
  by_count (suc (suc (suc (suc (suc (suc (suc zero))))))) h f =
      le_bytes_8 (held % 256 ∷ (held / 256 % 256 ∷ (held / 256 / 256 % 256 ∷ (held / 256 / 256 / 256 % 256 ∷ (held / 256 / 256 / 256 / 256 % 256 ∷ (held / 256 / 256 / 256 / 256 / 256 % 256 ∷ (held / 256 / 256 / 256 / 256 / 256 / 256 % 256 ∷ (b0 ∷ [])))))))) _ refl
      (eight (held % 256) (held / 256 % 256) (held / 256 / 256 % 256) (held / 256 / 256 / 256 % 256) (held / 256 / 256 / 256 / 256 % 256) (held / 256 / 256 / 256 / 256 / 256 % 256) (held / 256 / 256 / 256 / 256 / 256 / 256 % 256) b0 (omega arith) (omega arith) (omega arith) (omega arith) (omega arith) (omega arith) (omega arith) l0)
      (omega (arith, e, f, l0, l1, l2, l3, l4, l5, l6, l7))
  by_count (suc (suc (suc (suc (suc (suc (suc (suc n)))))))) h f = absurd (omega arith)

pub joined : (n held : ℕ) (next : List ℕ) (x : ℕ) → n ≤ 7 → held < 256 ^ n → length next ≡ 8 → ((i : ℕ) → get_or next i 0 < 256) → x ≡ from_le_bytes w64 next →
    to_le_bytes w64 (held + x * 2 ^ (8 * n) % 18446744073709551616) ≡ take 8 (bytes_of n held ++ next)
joined n held (b0 ∷ (b1 ∷ (b2 ∷ (b3 ∷ (b4 ∷ (b5 ∷ (b6 ∷ (b7 ∷ [])))))))) x h f l small e =
    by_count held x b0 b1 b2 b3 b4 b5 b6 b7 (small 0) (small 1) (small 2) (small 3) (small 4) (small 5) (small 6) (small 7) (omega (arith, e)) n h f
joined n held next x h f l small e = absurd (omega arith)
