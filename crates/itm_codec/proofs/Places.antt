-- The place of the first byte with bit 7 clear, as the bytes after the header tell it.
use Rattle.std.proofs.Common.{◌≡◌, ℕ, zero, suc, ◌+◌, ◌-◌, ◌*◌, ◌/◌, ◌%◌, ◌^◌, ◌<◌, ◌≤◌, inl, inr, List, [], ◌∷◌, length, take, drop, get_or, bit_and, bit_or, bit_xor, true, false, if◌then◌else◌, nat_lt, nat_eq, refl, sym, ◌∙◌, ap, ap₂, arith}
use Rattle.std.specs.Int.Bits.{and_zero_r, xor_self}
use Rattle.std.specs.Int.Count.{count_trailing_zeros, under}
use Rattle.std.proofs.Math.Nat.{mul_assoc}
use Rattle.std.proofs.lemmas.Bool.{agree_below_at, cases_lt, eqb-true}
use Rattle.std.proofs.lemmas.Bool.Decides.{nat_tests}
use Rattle.std.proofs.lemmas.Nat.{and_block, and_mask, or_block, or_lt, xor_block}
use Rattle.itm_codec.specs.Lengths.{first_clear, groups_behind}
use Rattle.itm_codec.specs.Names.{number}
use Rattle.itm_codec.specs.declared.lengths.TheConstants.{KINDS}
use Rattle.itm_codec.proofs.Zeros.{low_first}

-- the place among these bytes, where the first has bit 7 clear, and where it has not
pub place_here : (b : ℕ) (l : List ℕ) → b < 128 → first_clear (b ∷ l) ≡ 0
place_here b l h = ap (λ t. if t then 0 else 1 + first_clear l) (let e : nat_lt b 128 ≡ true = grind (arith, nat_tests) in e)

pub place_later : (b : ℕ) (l : List ℕ) → 128 ≤ b → first_clear (b ∷ l) ≡ 1 + first_clear l
place_later b l h = ap (λ t. if t then 0 else 1 + first_clear l) (let e : nat_lt b 128 ≡ false = grind (arith, nat_tests) in e)

-- which is one of the bytes, or the one after them
pub within : (l : List ℕ) → first_clear l ≤ length l
within [] = omega arith
within (b ∷ l) = elim (cases_lt b 128) [
  | inl h ↦ (let e = place_here b l h in omega (arith, e))
  | inr h ↦ (let e = place_later b l h in let k = within l in omega (arith, e, k))
]

-- zeros below a number, and none below an odd one
zeros_below : (j k n : ℕ) → count_trailing_zeros (j + k) (2 ^ j * n) ≡ j + count_trailing_zeros k n
unfolding count_trailing_zeros
zeros_below zero k n = ap₂ count_trailing_zeros (let e : 0 + k ≡ k = omega arith in e) (let e : 2 ^ 0 * n ≡ n = omega arith in e) ∙ omega arith
zeros_below (suc j) k n =
    let m : ℕ = 2 ^ j * n in
    let twice : 2 ^ suc j ≡ 2 * 2 ^ j = omega arith in
    ap₂ count_trailing_zeros (let e : suc j + k ≡ suc (j + k) = omega arith in e) (ap (λ (x : ℕ). x * n) twice ∙ mul_assoc 2 (2 ^ j) n)
    ∙ ap₂ (λ (d h : ℕ). under d (count_trailing_zeros (j + k) h)) (let e : 2 * m % 2 ≡ 0 = omega arith in e) (let e : 2 * m / 2 ≡ m = omega arith in e)
    ∙ ap suc (zeros_below j k n) ∙ omega arith

none_below : (k n : ℕ) → count_trailing_zeros (suc k) (1 + 2 * n) ≡ 0
unfolding count_trailing_zeros
none_below k n = ap (λ (d : ℕ). under d (count_trailing_zeros k ((1 + 2 * n) / 2))) (let e : (1 + 2 * n) % 2 ≡ 1 = omega arith in e)

-- these bytes with all bits set but bit 7 of each
filled : List ℕ → ℕ
filled [] = 0
filled (b ∷ l) = bit_or b 127 + 256 * filled l

low_fill : (b : ℕ) → b < 128 → bit_or b 127 ≡ 127
low_fill b h = eqb-true _ _ (agree_below_at (λ (k : ℕ). nat_eq (bit_or k 127) 127) (λ (k : ℕ). true) 128 b refl h)

high_fill : (b : ℕ) → 128 ≤ b → b < 256 → bit_or b 127 ≡ 255
high_fill b h l =
    let e : nat_eq (bit_or (128 + (b - 128)) 127) 255 ≡ true =
    agree_below_at (λ (k : ℕ). nat_eq (bit_or (128 + k) 127) 255) (λ (k : ℕ). true) 128 (b - 128) refl (omega arith) in
    ap (λ (x : ℕ). bit_or x 127) (let w : b ≡ 128 + (b - 128) = omega arith in w) ∙ eqb-true _ _ e

-- so they are, where the first has bit 7 clear, and where it has not
fill_here : (b : ℕ) (l : List ℕ) → b < 128 → filled (b ∷ l) ≡ filled l * 256 + 127
unfolding filled
fill_here b l h = (let e = low_fill b h in omega (arith, e))

fill_later : (b : ℕ) (l : List ℕ) → 128 ≤ b → b < 256 → filled (b ∷ l) ≡ filled l * 256 + 255
unfolding filled
fill_later b l h s = (let e = high_fill b h s in omega (arith, e))

-- all bits of so many bytes but bit 7 of each
sevens : ℕ → ℕ
sevens zero = 0
sevens (suc n) = sevens n * 256 + 127

filled_is : (l : List ℕ) → ((i : ℕ) → get_or l i 0 < 256) → bit_or (number l) (sevens (length l)) ≡ filled l
unfolding filled sevens
filled_is [] small = refl
filled_is (b ∷ l) small =
    ap (λ (x : ℕ). bit_or x (sevens (length l) * 256 + 127)) (let e : b + 256 * number l ≡ number l * 256 + b = omega arith in e)
    ∙ or_block 8 (number l) (sevens (length l)) b 127 (small 0) (omega arith) ∙ (let k = filled_is l (λ i. small (suc i)) in omega (arith, k))

-- one more has as many zeros below as there are bits before the place
zeros_at : (l : List ℕ) (more k : ℕ) → ((i : ℕ) → get_or l i 0 < 256) → k ≡ 8 * length l + suc more → count_trailing_zeros k (filled l + 1) / 8 ≡ first_clear l
unfolding filled
zeros_at [] more k small e = ap (λ (x : ℕ). x / 8) (ap (λ (x : ℕ). count_trailing_zeros x 1) (let w : k ≡ suc more = omega (arith, e) in w) ∙ none_below more 0)
zeros_at (b ∷ l) more k small e = elim (cases_lt b 128) [
  | inl h ↦ (
      let z = ap₂ count_trailing_zeros (let w : k ≡ 7 + suc (8 * length l + suc more) = omega (arith, e) in w)
      (let w : filled (b ∷ l) + 1 ≡ 2 ^ 7 * (1 + 2 * filled l) = omega (arith, fill_here b l h) in w)
      ∙ zeros_below 7 _ _ ∙ ap (λ (x : ℕ). 7 + x) (none_below _ _) in
      ap (λ (x : ℕ). x / 8) z ∙ sym (place_here b l h))
  | inr h ↦ (
      let z = ap₂ count_trailing_zeros (let w : k ≡ 8 + (8 * length l + suc more) = omega (arith, e) in w)
      (let w : filled (b ∷ l) + 1 ≡ 2 ^ 8 * (filled l + 1) = omega (arith, fill_later b l h (small 0)) in w)
      ∙ zeros_below 8 _ _ in
      let r = zeros_at l more (8 * length l + suc more) (λ i. small (suc i)) refl in
      ap (λ (x : ℕ). x / 8) z ∙ (let w : (8 + count_trailing_zeros (8 * length l + suc more) (filled l + 1)) / 8 ≡ 1 + first_clear l = omega (arith, r) in w) ∙ sym (place_later b l h))
]

-- the bits that differ in one more are those of the bytes up to the place
bits_to : (l : List ℕ) → ((i : ℕ) → get_or l i 0 < 256) → bit_and (number l) (bit_xor (filled l) (filled l + 1)) ≡ number (take (1 + first_clear l) l)
unfolding filled
bits_to [] small = refl
bits_to (b ∷ l) small =
    let s : b < 256 = small 0 in
    let n : b + 256 * number l ≡ number l * 256 + b = omega arith in
    let low : bit_and b 255 ≡ b = and_mask b 8 ∙ omega (arith, s) in
    elim (cases_lt b 128) [
      | inl h ↦ (
          let f = fill_here b l h in
          let x = ap₂ bit_xor f (let w : filled (b ∷ l) + 1 ≡ filled l * 256 + 128 = omega (arith, f) in w)
          ∙ xor_block 8 (filled l) (filled l) 127 128 (omega arith) (omega arith) ∙ ap (λ (y : ℕ). y * 256 + 255) (xor_self (filled l)) in
          let a = ap₂ bit_and n x ∙ and_block 8 (number l) 0 b 255 s (omega arith) ∙ ap₂ (λ (y z : ℕ). y * 256 + z) (and_zero_r (number l)) low in
          a ∙ (let w : 0 * 256 + b ≡ number (take 1 (b ∷ l)) = omega arith in w) ∙ ap (λ (k : ℕ). number (take (1 + k) (b ∷ l))) (sym (place_here b l h)))
      | inr h ↦ (
          let f = fill_later b l h s in
          let x = ap₂ bit_xor f (let w : filled (b ∷ l) + 1 ≡ (filled l + 1) * 256 + 0 = omega (arith, f) in w)
          ∙ xor_block 8 (filled l) (filled l + 1) 255 0 (omega arith) (omega arith) in
          let a = ap₂ bit_and n x ∙ and_block 8 (number l) (bit_xor (filled l) (filled l + 1)) b 255 s (omega arith)
          ∙ ap₂ (λ (y z : ℕ). y * 256 + z) (bits_to l (λ i. small (suc i))) low in
          a ∙ (let w : number (take (1 + first_clear l) l) * 256 + b ≡ number (take (suc (1 + first_clear l)) (b ∷ l)) = omega arith in w)
          ∙ ap (λ (k : ℕ). number (take k (b ∷ l))) (let p : suc (1 + first_clear l) ≡ 1 + first_clear (b ∷ l) = omega (arith, place_later b l h) in p))
    ]

-- the first bytes of some are the low ones of their number
low_bytes : (n m : ℕ) (l : List ℕ) → ((i : ℕ) → get_or l i 0 < 256) → number (take m l) % 256 ^ n ≡ number (take n (take m l))
low_bytes zero m l small = omega arith
low_bytes (suc n) zero l small = omega arith
low_bytes (suc n) (suc m) [] small = omega arith
low_bytes (suc n) (suc m) (b ∷ l) small =
    low_first b (number (take m l)) n (small 0) ∙ (let k = low_bytes n m l (λ i. small (suc i)) in omega (arith, k))

-- of the seven bytes after a header
seven_filled : (window : List ℕ) (payload : ℕ) → length window ≡ 8 → ((i : ℕ) → get_or window i 0 < 256) → payload ≡ number (drop 1 window) →
    bit_or payload 35887507618889599 ≡ filled (drop 1 window)
unfolding sevens
seven_filled [] payload l small e = absurd (omega arith)
seven_filled (b ∷ bytes) payload l small e =
    ap₂ bit_or e (ap sevens (let w : 7 ≡ length bytes = omega (arith, l) in w)) ∙ filled_is bytes (λ i. small (suc i))

pub filled_few : (payload : ℕ) → payload < 256 ^ 7 → bit_or payload 35887507618889599 < 256 ^ 7
filled_few payload h = or_lt 56 payload 35887507618889599 h (omega arith)

pub place_is : (window : List ℕ) (payload : ℕ) → length window ≡ 8 → ((i : ℕ) → get_or window i 0 < 256) → payload ≡ number (drop 1 window) →
    count_trailing_zeros 64 (bit_or payload 35887507618889599 + 1) / 8 ≡ first_clear (drop 1 window)
place_is [] payload l small e = absurd (omega arith)
place_is (b ∷ bytes) payload l small e =
    ap (λ (x : ℕ). count_trailing_zeros 64 (x + 1) / 8) (seven_filled (b ∷ bytes) payload l small e) ∙ zeros_at bytes 7 64 (λ i. small (suc i)) (omega (arith, l))

pub place_few : (window : List ℕ) → length window ≡ 8 → first_clear (drop 1 window) < 8
place_few [] l = absurd (omega arith)
place_few (b ∷ bytes) l = (let k = within bytes in omega (arith, l, k))

pub bytes_are : (window : List ℕ) (payload : ℕ) → length window ≡ 8 → ((i : ℕ) → get_or window i 0 < 256) → payload ≡ number (drop 1 window) →
    bit_and payload (bit_xor (bit_or payload 35887507618889599) (bit_or payload 35887507618889599 + 1)) % 4294967296 ≡ number (take 4 (groups_behind window))
bytes_are [] payload l small e = absurd (omega arith)
bytes_are (b ∷ bytes) payload l small e =
    ap₂ (λ (p f : ℕ). bit_and p (bit_xor f (f + 1)) % 4294967296) e (seven_filled (b ∷ bytes) payload l small e)
    ∙ ap (λ (x : ℕ). x % 4294967296) (bits_to bytes (λ i. small (suc i))) ∙ low_bytes 4 (1 + first_clear bytes) bytes (λ i. small (suc i))

-- the kinds are few
pub kind_few : (header : ℕ) → header < 256 → get_or KINDS.now header 0 < 8
kind_few header l =
    let e : nat_lt (get_or KINDS.now header 0) 8 ≡ true = agree_below_at (λ (k : ℕ). nat_lt (get_or KINDS.now k 0) 8) (λ (k : ℕ). true) 256 header refl l in
    grind (arith, nat_tests)
