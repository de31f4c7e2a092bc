-- Gray code, bit by bit.
use Rattle.std.proofs.Common.{◌≡◌, ℕ, zero, suc, ◌+◌, ◌/◌, ◌%◌, ◌^◌, ◌<◌, ◌≤◌, ◌⊎◌, inl, inr, sym, ◌∙◌, ap, arith}
use Rattle.std.specs.Int.{bit_at, sum_through}
use Rattle.std.specs.Int.RustNames.{bit_xor}
use Rattle.std.proofs.lemmas.Nat.{shr-shr, xor_lt, shr_le}
use Rattle.std.proofs.lemmas.Nat.Bits.{bit_at-lt, bit_at_xor, same_from_bits_below, bit_at_above}
use Rattle.trace_clock.specs.GrayCode.{natural_of, gray_of}
use Rattle.trace_clock.proofs.DigitSums.{number, number_lt, digit_of_number}

-- a number made of bits has these
bit_of_number : (f : ℕ → ℕ) (n i : ℕ) → ((b : ℕ) → f b < 2) → i ≤ n → bit_at (number 2 f n) i ≡ f i
bit_of_number f n i bits h = digit_of_number 2 (omega arith) f n i bits h

-- a shifted number
pub shifted : (x s i : ℕ) → bit_at (x / 2 ^ s) i ≡ bit_at x (i + s)
shifted x s i = ap (λ n. n % 2) (shr-shr x s i ∙ ap (λ k. x / 2 ^ k) (let e : s + i ≡ i + s = omega arith in e))

sum_same : (f g : ℕ → ℕ) (n : ℕ) → ((j : ℕ) → f j ≡ g j) → sum_through f n ≡ sum_through g n
sum_same f g zero h = h 0
sum_same f g (suc n) h = let a = sum_same f g n h in let b = h (suc n) in omega (arith, a, b)

-- a sum in two parts
sum_parts : (f : ℕ → ℕ) (m k : ℕ) → sum_through f (m + suc k) ≡ sum_through f m + sum_through (λ j. f (suc m + j)) k
sum_parts f m zero =
    ap (sum_through f) (let e : m + 1 ≡ suc m = omega arith in e)
    ∙ ap (λ k. sum_through f m + f k) (let e : suc m ≡ suc m + 0 = omega arith in e)
sum_parts f m (suc k) =
    let a = sum_parts f m k in
    let b = ap f (let e : suc (m + suc k) ≡ suc m + suc k = omega arith in e) in
    ap (sum_through f) (let e : m + suc (suc k) ≡ suc (m + suc k) = omega arith in e) ∙ omega (arith, a, b)

abbrev pub window : ℕ → ℕ → ℕ → ℕ
window g i n = sum_through (λ j. bit_at g (i + j)) n % 2

pub window_none : (g i : ℕ) → bit_at g i ≡ window g i 0
window_none g i = let a = ap (bit_at g) (let e : i ≡ i + 0 = omega arith in e) in let b = bit_at-lt g (i + 0) in omega (arith, a, b)

-- where each bit is the parity of m + 1 bits, with the shifted number it is that of twice as many
pub doubled : (g x m : ℕ) → ((i : ℕ) → bit_at x i ≡ window g i m) → (i : ℕ) → bit_at (bit_xor x (x / 2 ^ suc m)) i ≡ window g i (m + suc m)
doubled g x m h i =
    let p = bit_at_xor x (x / 2 ^ suc m) i in
    let q = shifted x (suc m) i in
    let a = h i in
    let b = h (i + suc m) in
    let s = sum_parts (λ j. bit_at g (i + j)) m m in
    let same = sum_same (λ j. bit_at g (i + suc m + j)) (λ j. bit_at g (i + (suc m + j))) m (λ j. ap (bit_at g) (let e : i + suc m + j ≡ i + (suc m + j) = omega arith in e)) in
    by (bit_at x i) (bit_at (x / 2 ^ suc m) i) (bit_at x (i + suc m)) (sum_through (λ j. bit_at g (i + j)) m) (sum_through (λ j. bit_at g (i + suc m + j)) m)
    (sum_through (λ j. bit_at g (i + (suc m + j))) m) (sum_through (λ j. bit_at g (i + j)) (m + suc m)) (bit_at (bit_xor x (x / 2 ^ suc m)) i) p q a b s same
  where
    by : (x y z a b c d r : ℕ) → r ≡ (x + y) % 2 → y ≡ z → x ≡ a % 2 → z ≡ b % 2 → d ≡ a + c → b ≡ c → r ≡ d % 2
    by x y z a b c d r p q e f s t = omega arith

-- the parity of the bits from i up
abbrev parity_from : ℕ → ℕ → ℕ
parity_from gray i = sum_through (λ j. bit_at gray (i + j)) 63 % 2

parity_lt : (g i : ℕ) → parity_from g i < 2
parity_lt g i = omega arith

-- a number with the parities as its bits is the natural number
pub natural_is : (g x : ℕ) → x < 2 ^ 64 → ((i : ℕ) → bit_at x i ≡ window g i 63) → x ≡ natural_of g
unfolding natural_of
natural_is g x h bits =
    same_from_bits_below 64 x (number 2 (parity_from g) 63) h (number_lt 2 (omega arith) (parity_from g) 63 (parity_lt g))
    (λ i l. bits i ∙ sym (bit_of_number (parity_from g) 63 i (parity_lt g) (omega arith)))

-- fast: shifts by 1, 2, 4, .. 32
abbrev pub folded : ℕ → ℕ → ℕ
folded x s = bit_xor x (x / 2 ^ s)

pub from_gray_is : (g : ℕ) → g < 2 ^ 64 → folded (folded (folded (folded (folded (folded g 1) 2) 4) 8) 16) 32 ≡ natural_of g
from_gray_is g h =
    let a = folded g 1 in let b = folded a 2 in let c = folded b 4 in let d = folded c 8 in let e = folded d 16 in let f = folded e 32 in
    natural_is g f (less e 32 (less d 16 (less c 8 (less b 4 (less a 2 (less g 1 h))))))
    (doubled g e 31 (doubled g d 15 (doubled g c 7 (doubled g b 3 (doubled g a 1 (doubled g g 0 (window_none g)))))))
  where
    less : (x s : ℕ) → x < 2 ^ 64 → folded x s < 2 ^ 64
    less x s h = xor_lt 64 x (x / 2 ^ s) h (let k = shr_le x s in omega (arith, k))

-- the bits of a Gray number
differ : ℕ → ℕ → ℕ
differ n i = (bit_at n i + bit_at n (i + 1)) % 2

pub to_gray_is : (n : ℕ) → n < 2 ^ 64 → bit_xor n (n / 2 ^ 1) ≡ gray_of n
unfolding gray_of differ
to_gray_is n h =
    same_from_bits_below 64 (bit_xor n (n / 2 ^ 1)) (number 2 (differ n) 63) (xor_lt 64 n (n / 2 ^ 1) h (let k = shr_le n 1 in omega (arith, k))) (number_lt 2 (omega arith) (differ n) 63 (λ b. omega arith))
    (λ i l. bit_at_xor n (n / 2 ^ 1) i ∙ ap (λ z. (bit_at n i + z) % 2) (shifted n 1 i) ∙ sym (bit_of_number (differ n) 63 i (λ b. omega arith) (omega arith)))

-- every bit of either, as the other's
gray_bit : (n k : ℕ) → n < 2 ^ 64 → bit_at (gray_of n) k ≡ differ n k
unfolding gray_of differ
gray_bit n k h = elim (split k 63) [
  | inl l ↦ bit_of_number (differ n) 63 k (λ b. omega arith) l
  | inr l ↦
      let a = bit_at_above (number 2 (differ n) 63) 64 k (number_lt 2 (omega arith) (differ n) 63 (λ b. omega arith)) (omega arith) in
      let b = bit_at_above n 64 k h (omega arith) in
      let c = bit_at_above n 64 (k + 1) h (omega arith) in
      a ∙ (let e : 0 ≡ (bit_at n k + bit_at n (k + 1)) % 2 = omega (arith, b, c) in e)
] where
  split : (a b : ℕ) → (a ≤ b) ⊎ (b < a)
  split a b = grind arith

zeros : (f : ℕ → ℕ) (n : ℕ) → ((j : ℕ) → f j ≡ 0) → sum_through f n ≡ 0
zeros f zero h = h 0
zeros f (suc n) h = let a = zeros f n h in let b = h (suc n) in omega (arith, a, b)

pub natural_bit : (g k : ℕ) → g < 2 ^ 64 → bit_at (natural_of g) k ≡ parity_from g k
unfolding natural_of
natural_bit g k h = elim (split k 63) [
  | inl l ↦ bit_of_number (parity_from g) 63 k (parity_lt g) l
  | inr l ↦
      let a = bit_at_above (number 2 (parity_from g) 63) 64 k (number_lt 2 (omega arith) (parity_from g) 63 (parity_lt g)) (omega arith) in
      let z = zeros (λ j. bit_at g (k + j)) 63 (λ j. bit_at_above g 64 (k + j) h (omega arith)) in
      a ∙ (let e : 0 ≡ parity_from g k = omega (arith, z) in e)
] where
  split : (a b : ℕ) → (a ≤ b) ⊎ (b < a)
  split a b = grind arith

-- differences of neighbours add up to the difference of the ends
telescope : (f : ℕ → ℕ) (m : ℕ) → sum_through (λ j. (f j + f (j + 1)) % 2) m % 2 ≡ (f 0 + f (m + 1)) % 2
telescope f zero = omega arith
telescope f (suc m) =
    let a = telescope f m in
    let e = ap f (let k : m + 1 ≡ suc m = omega arith in k) in
    by (sum_through (λ j. (f j + f (j + 1)) % 2) m) (f 0) (f (m + 1)) (f (suc m)) (f (suc m + 1)) a e
  where
    by : (s x y z w : ℕ) → s % 2 ≡ (x + y) % 2 → y ≡ z → (s + (z + w) % 2) % 2 ≡ (x + w) % 2
    by s x y z w a e = omega arith

-- and sums of neighbours to the ends
overlap : (f : ℕ → ℕ) (m : ℕ) → (sum_through f m + sum_through (λ j. f (j + 1)) m) % 2 ≡ (f 0 + f (m + 1)) % 2
overlap f zero = omega arith
overlap f (suc m) =
    let a = overlap f m in
    let e = ap f (let k : m + 1 ≡ suc m = omega arith in k) in
    by (sum_through f m) (sum_through (λ j. f (j + 1)) m) (f 0) (f (m + 1)) (f (suc m)) (f (suc m + 1)) a e
  where
    by : (s t x y z w : ℕ) → (s + t) % 2 ≡ (x + y) % 2 → y ≡ z → (s + z + (t + w)) % 2 ≡ (x + w) % 2
    by s t x y z w a e = omega arith

pub natural_lt : (g : ℕ) → natural_of g < 2 ^ 64
unfolding natural_of
natural_lt g = number_lt 2 (omega arith) (parity_from g) 63 (parity_lt g)

pub gray_lt : (n : ℕ) → gray_of n < 2 ^ 64
unfolding gray_of
gray_lt n = number_lt 2 (omega arith) (λ i. (bit_at n i + bit_at n (i + 1)) % 2) 63 (λ b. omega arith)

there : (n i : ℕ) → n < 2 ^ 64 → i < 64 → parity_from (gray_of n) i ≡ bit_at n i
unfolding differ
there n i h l =
    let s = sum_same (λ j. bit_at (gray_of n) (i + j)) (λ j. (bit_at n (i + j) + bit_at n (i + (j + 1))) % 2) 63
    (λ j. gray_bit n (i + j) h ∙ ap (λ k. (bit_at n (i + j) + bit_at n k) % 2) (let e : i + j + 1 ≡ i + (j + 1) = omega arith in e)) in
    let t = telescope (λ j. bit_at n (i + j)) 63 in
    let top = bit_at_above n 64 (i + 64) h (omega arith) in
    let low = ap (bit_at n) (let e : i + 0 ≡ i = omega arith in e) in
    let one = bit_at-lt n i in
    by (sum_through (λ j. bit_at (gray_of n) (i + j)) 63) (sum_through (λ j. (bit_at n (i + j) + bit_at n (i + (j + 1))) % 2) 63) (bit_at n (i + 0)) (bit_at n i) (bit_at n (i + 64)) s t top low one
  where
    by : (r s x y z : ℕ) → r ≡ s → s % 2 ≡ (x + z) % 2 → z ≡ 0 → x ≡ y → y < 2 → r % 2 ≡ y
    by r s x y z a b c d e = omega arith

back : (g i : ℕ) → g < 2 ^ 64 → i < 64 → differ (natural_of g) i ≡ bit_at g i
unfolding differ
back g i h l =
    let a = natural_bit g i h in
    let b = natural_bit g (i + 1) h in
    let s = sum_same (λ j. bit_at g (i + 1 + j)) (λ j. bit_at g (i + (j + 1))) 63 (λ j. ap (bit_at g) (let e : i + 1 + j ≡ i + (j + 1) = omega arith in e)) in
    let t = overlap (λ j. bit_at g (i + j)) 63 in
    let top = bit_at_above g 64 (i + 64) h (omega arith) in
    let low = ap (bit_at g) (let e : i + 0 ≡ i = omega arith in e) in
    let one = bit_at-lt g i in
    by (bit_at (natural_of g) i) (bit_at (natural_of g) (i + 1)) (sum_through (λ j. bit_at g (i + j)) 63) (sum_through (λ j. bit_at g (i + 1 + j)) 63) (sum_through (λ j. bit_at g (i + (j + 1))) 63)
    (bit_at g (i + 0)) (bit_at g i) (bit_at g (i + 64)) a b s t top low one
  where
    by : (p q r u v x y z : ℕ) → p ≡ r % 2 → q ≡ u % 2 → u ≡ v → (r + v) % 2 ≡ (x + z) % 2 → z ≡ 0 → x ≡ y → y < 2 → (p + q) % 2 ≡ y
    by p q r u v x y z a b c d e f g = omega arith

pub to_and_fro : (n : ℕ) → n < 2 ^ 64 → natural_of (gray_of n) ≡ n
to_and_fro n h = same_from_bits_below 64 (natural_of (gray_of n)) n (natural_lt (gray_of n)) h (λ i l. natural_bit (gray_of n) i (gray_lt n) ∙ there n i h l)

pub fro_and_to : (n : ℕ) → n < 2 ^ 64 → gray_of (natural_of n) ≡ n
fro_and_to n h = same_from_bits_below 64 (gray_of (natural_of n)) n (gray_lt (natural_of n)) h (λ i l. gray_bit (natural_of n) i (natural_lt n) ∙ back n i h l)

pub is_differ : (n k : ℕ) → n < 2 ^ 64 → bit_at (gray_of n) k ≡ (bit_at n k + bit_at n (k + 1)) % 2
unfolding differ
is_differ n k h = gray_bit n k h
