-- Bits of numbers.
use Rattle.std.proofs.Common.{◌≡◌, ℕ, zero, suc, ◌+◌, ◌*◌, ◌/◌, ◌%◌, ◌^◌, ◌<◌, List, [], ◌∷◌, ◌++◌, length, length-append, take, drop, Bool, cond, refl, sym, ◌∙◌, ap, arith, append_assoc, append-nil}
use Rattle.std.specs.Prelude.{◌==◌}
use Rattle.std.specs.List.{AllByRecursion}
use Rattle.std.proofs.lemmas.List.{take-append-drop}
use Rattle.std.proofs.lemmas.Nat.{shr-shr, shr_split, pow_pos, mod-pow-add}
use Rattle.std.proofs.Math.Nat.{mod-lt}
use Rattle.port_slip.specs.Bits.{bits, bits_of, ones, number, whole_bytes}

pub bits_length : (n x : ℕ) → length (bits n x) ≡ n
unfolding bits
bits_length zero x = refl
bits_length (suc n) x = ap suc (bits_length n (x / 2))

pub ones_length : (n : ℕ) → length (ones n) ≡ n
unfolding ones
ones_length zero = refl
ones_length (suc n) = ap suc (ones_length n)

pub halved : (x n : ℕ) → x / 2 ^ suc n ≡ x / 2 / 2 ^ n
halved x n = let e = shr-shr x 1 n in let k : 1 + n ≡ suc n = omega arith in ap (λ m. x / 2 ^ m) (sym k) ∙ sym e

twice : (n : ℕ) → 2 ^ suc n ≡ 2 * 2 ^ n
twice n = omega arith

pub bits_append : (n m x y : ℕ) → x < 2 ^ n → bits (n + m) (x + y * 2 ^ n) ≡ bits n x ++ bits m y
unfolding bits
bits_append zero m x y h =
    let a : 0 + m ≡ m = omega arith in
    let b : x + y * 2 ^ 0 ≡ y = omega (arith, h) in
    ap (λ k. bits k (x + y * 2 ^ 0)) a ∙ ap (bits m) b
bits_append (suc n) m x y h =
    let a : suc n + m ≡ suc (n + m) = omega arith in
    let t = twice n in
    let v : x + y * 2 ^ suc n ≡ x + 2 * (y * 2 ^ n) = ap (λ p. x + y * p) t ∙ (omega arith) in
    let low : (x + y * 2 ^ suc n) % 2 ≡ x % 2 = ap (λ w. w % 2) v ∙ omega arith in
    let high : (x + y * 2 ^ suc n) / 2 ≡ x / 2 + y * 2 ^ n = ap (λ w. w / 2) v ∙ omega arith in
    let few : x / 2 < 2 ^ n = omega (arith, h, t) in
    ap (λ k. bits k (x + y * 2 ^ suc n)) a ∙ ap (λ w. (w == 1) ∷ bits (n + m) ((x + y * 2 ^ suc n) / 2)) low
    ∙ ap (λ w. (x % 2 == 1) ∷ bits (n + m) w) high ∙ ap (λ l. (x % 2 == 1) ∷ l) (bits_append n m (x / 2) y few)

pub bits_drop : (n m x : ℕ) → drop n (bits (n + m) x) ≡ bits m (x / 2 ^ n)
unfolding bits
bits_drop zero m x =
    let a : 0 + m ≡ m = omega arith in
    let b : x ≡ x / 2 ^ 0 = omega arith in
    ap (λ k. bits k x) a ∙ ap (bits m) b
bits_drop (suc n) m x =
    let a : suc n + m ≡ suc (n + m) = omega arith in
    ap (λ k. drop (suc n) (bits k x)) a ∙ bits_drop n m (x / 2) ∙ ap (bits m) (sym (halved x n))

first_bit : (r : ℕ) → r < 2 → cond (r == 1) 1 0 ≡ r
first_bit zero h = refl
first_bit (suc zero) h = refl
first_bit (suc (suc r)) h = absurd (omega arith)

pub number_bits : (n x : ℕ) → number (bits n x) ≡ x % 2 ^ n
unfolding bits
number_bits zero x = omega arith
number_bits (suc n) x =
    let i = number_bits n (x / 2) in
    let t = mod-pow-add x n 1 in
    let k : suc n ≡ n + 1 = omega arith in
    let f = first_bit (x % 2) (omega arith) in
    let e : x % 2 ^ suc n ≡ x / 2 % 2 ^ n * 2 + x % 2 = ap (λ m. x % 2 ^ m) k ∙ t in omega (arith, f, i, e)

-- a byte's bits and more, as bytes
pub whole_step : (x : ℕ) (s : List Bool) → whole_bytes (bits 8 x ++ s) ≡ x % 256 ∷ whole_bytes s
unfolding bits
whole_step x s = ap (λ n. n ∷ whole_bytes s) (number_bits 8 x)

pub bits_take : (n m x : ℕ) → take n (bits (n + m) x) ≡ bits n x
unfolding bits
bits_take zero m x = refl
bits_take (suc n) m x =
    let a : suc n + m ≡ suc (n + m) = omega arith in
    ap (λ k. take (suc n) (bits k x)) a ∙ ap (λ l. (x % 2 == 1) ∷ l) (bits_take n m (x / 2))

-- under eight bits are no byte
pub few_bits : (s : List Bool) → length s < 8 → whole_bytes s ≡ []
few_bits (a ∷ (b ∷ (c ∷ (d ∷ (e ∷ (f ∷ (g ∷ (h ∷ s)))))))) l = absurd (omega arith)
few_bits s h = refl

-- a number's bits are first those of its low end
pub bits_split : (n m x : ℕ) → bits (n + m) x ≡ bits n x ++ bits m (x / 2 ^ n)
bits_split n m x =
    sym (take-append-drop n (bits (n + m) x)) ∙ ap (λ (l : List Bool). l ++ drop n (bits (n + m) x)) (bits_take n m x) ∙ ap (λ (l : List Bool). bits n x ++ l) (bits_drop n m x)

pub low_bits : (n x : ℕ) → bits n x ≡ bits n (x % 2 ^ n)
unfolding bits
low_bits n x =
    let e = shr_split x n in
    let k : x ≡ x % 2 ^ n + x / 2 ^ n * 2 ^ n = omega (arith, e) in
    let z : n ≡ n + 0 = omega arith in
    ap (λ m. bits m x) z ∙ ap (bits (n + 0)) k ∙ bits_append n 0 (x % 2 ^ n) (x / 2 ^ n) (mod-lt x (pow_pos n)) ∙ append-nil (bits n (x % 2 ^ n))

-- bytes, one after the other
abbrev pub AreBytes : List ℕ → Type 0
AreBytes x = AllByRecursion (λ b. b < 256) x

pub bits_join : (x y : List ℕ) → bits_of (x ++ y) ≡ bits_of x ++ bits_of y
bits_join [] y = refl
bits_join (b ∷ x) y = ap (λ l. bits 8 b ++ l) (bits_join x y) ∙ sym (append_assoc (bits 8 b) (bits_of x) (bits_of y))

pub bits_count : (x : List ℕ) → length (bits_of x) ≡ 8 * length x
bits_count [] = refl
bits_count (b ∷ x) = length-append (bits 8 b) (bits_of x) ∙ (let i = bits_count x in let n = bits_length 8 b in omega (arith, i, n))

-- the number whose bytes these are, the low one first
abbrev pub word_of : List ℕ → ℕ
word_of [] = 0
word_of (b ∷ x) = b + word_of x * 2 ^ 8

pub word_bits : (x : List ℕ) → AreBytes x → bits (8 * length x) (word_of x) ≡ bits_of x
unfolding bits
word_bits [] a = refl
word_bits (b ∷ x) a =
    let n : 8 * length (b ∷ x) ≡ 8 + 8 * length x = omega arith in
    ap (λ m. bits m (b + word_of x * 2 ^ 8)) n ∙ bits_append 8 (8 * length x) b (word_of x) a.0 ∙ ap (λ l. bits 8 b ++ l) (word_bits x a.1)

-- the low bytes of a number
abbrev pub low_bytes : ℕ → ℕ → List ℕ
low_bytes zero x = []
low_bytes (suc n) x = x % 256 ∷ low_bytes n (x / 256)

pub whole_low : (n x : ℕ) (s : List Bool) → whole_bytes (bits (8 * n) x ++ s) ≡ low_bytes n x ++ whole_bytes s
unfolding bits
whole_low zero x s = refl
whole_low (suc n) x s =
    let m : 8 * suc n ≡ 8 + 8 * n = omega arith in
    ap (λ k. whole_bytes (bits k x ++ s)) m
    ∙ ap (λ (l : List Bool). whole_bytes (l ++ s)) (bits_split 8 (8 * n) x) ∙ ap whole_bytes (append_assoc (bits 8 x) (bits (8 * n) (x / 2 ^ 8)) s)
    ∙ whole_step x (bits (8 * n) (x / 2 ^ 8) ++ s) ∙ ap (λ l. x % 256 ∷ l) (whole_low n (x / 2 ^ 8) s)
