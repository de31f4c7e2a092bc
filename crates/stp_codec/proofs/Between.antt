-- Nibbles of bytes, from one on up to another.
use Rattle.std.proofs.Common.{◌≡◌, ℕ, zero, suc, ◌+◌, ◌-◌, ◌*◌, ◌/◌, ◌%◌, ◌<◌, ◌≤◌, List, [], ◌∷◌, ◌++◌, length, take}
use Rattle.std.proofs.Common.{drop, get_or, refl, sym, ◌∙◌, ap, arith}
use Rattle.std.proofs.lemmas.List.{drop_more}
use Rattle.stp_codec.specs.Wholes.{nibbles_in, between}

pub length-nibbles : (bytes : List ℕ) → length (nibbles_in bytes) ≡ 2 * length bytes
length-nibbles [] = refl
length-nibbles (b ∷ bytes) = let k = length-nibbles bytes in omega arith

pub between_none : (xs : List ℕ) (a : ℕ) → between xs a a ≡ []
between_none xs a = ap (λ n. take n (drop a xs)) (let e : a - a ≡ 0 = omega arith in e)

pub between_first : (xs : List ℕ) (a b : ℕ) → a < b → a < length xs → between xs a b ≡ get_or xs a 0 ∷ between xs (a + 1) b
between_first xs a b h l =
    ap (λ n. take n (drop a xs)) (let e : b - a ≡ suc (b - (a + 1)) = omega arith in e) ∙ ap (take (suc (b - (a + 1)))) (drop_more xs a 0 l)

pub between_parts : (xs : List ℕ) (n a c : ℕ) → a + n ≤ c → a + n ≤ length xs → between xs a c ≡ between xs a (a + n) ++ between xs (a + n) c
between_parts xs zero a c h l =
    ap (λ k. between xs k c) (let e : a ≡ a + 0 = omega arith in e)
    ∙ ap (λ r. r ++ between xs (a + 0) c) (sym (between_none xs a) ∙ ap (between xs a) (let e : a ≡ a + 0 = omega arith in e))
between_parts xs (suc n) a c h l =
    between_first xs a c (omega arith) (omega arith)
    ∙ ap (λ r. get_or xs a 0 ∷ r) (between_parts xs n (a + 1) c (omega arith) (omega arith) ∙ ap (λ k. between xs (a + 1) k ++ between xs k c) (let e : a + 1 + n ≡ a + suc n = omega arith in e))
    ∙ ap (λ r. r ++ between xs (a + suc n) c) (sym (between_first xs a (a + suc n) (omega arith) (omega arith)))

pub length-between : (xs : List ℕ) (n a : ℕ) → a + n ≤ length xs → length (between xs a (a + n)) ≡ n
length-between xs zero a h = ap length (ap (between xs a) (let e : a + 0 ≡ a = omega arith in e) ∙ between_none xs a)
length-between xs (suc n) a h =
    ap length (between_first xs a (a + suc n) (omega arith) (omega arith))
    ∙ ap (λ k. suc (length (between xs (a + 1) k))) (let e : a + suc n ≡ a + 1 + n = omega arith in e) ∙ ap suc (length-between xs n (a + 1) (omega arith))

pub between_push : (xs : List ℕ) (n a : ℕ) → a + n < length xs → between xs a (a + (n + 1)) ≡ between xs a (a + n) ++ get_or xs (a + n) 0 ∷ []
between_push xs n a h =
    between_parts xs n a (a + (n + 1)) (omega arith) (omega arith)
    ∙ ap (λ r. between xs a (a + n) ++ r) (between_first xs (a + n) (a + (n + 1)) (omega arith) h
    ∙ ap (λ r. get_or xs (a + n) 0 ∷ r) (ap (between xs (a + n + 1)) (let e : a + (n + 1) ≡ a + n + 1 = omega arith in e) ∙ between_none xs (a + n + 1)))

-- the low and the high nibble of a byte
pub low_nibble : (bytes : List ℕ) (i : ℕ) → i < length bytes → get_or (nibbles_in bytes) (2 * i) 0 ≡ get_or bytes i 0 % 16
low_nibble [] i h = absurd (omega arith)
low_nibble (b ∷ bytes) zero h = refl
low_nibble (b ∷ bytes) (suc i) h = ap (λ k. get_or (b % 16 ∷ (b / 16 % 16 ∷ nibbles_in bytes)) k 0) (let e : 2 * suc i ≡ suc (suc (2 * i)) = omega arith in e) ∙ low_nibble bytes i (omega arith)

pub high_nibble : (bytes : List ℕ) (i : ℕ) → i < length bytes → get_or (nibbles_in bytes) (2 * i + 1) 0 ≡ get_or bytes i 0 / 16 % 16
high_nibble [] i h = absurd (omega arith)
high_nibble (b ∷ bytes) zero h = refl
high_nibble (b ∷ bytes) (suc i) h = ap (λ k. get_or (b % 16 ∷ (b / 16 % 16 ∷ nibbles_in bytes)) k 0) (let e : 2 * suc i + 1 ≡ suc (suc (2 * i + 1)) = omega arith in e) ∙ high_nibble bytes i (omega arith)

pub even_nibble : (bytes : List ℕ) (i : ℕ) → i < 2 * length bytes → i % 2 ≡ 0 → get_or bytes (i / 2) 0 % 16 ≡ get_or (nibbles_in bytes) i 0
even_nibble bytes i h e = sym (low_nibble bytes (i / 2) (omega arith)) ∙ ap (λ k. get_or (nibbles_in bytes) k 0) (let q : 2 * (i / 2) ≡ i = omega (arith, e) in q)

pub odd_nibble : (bytes : List ℕ) (i : ℕ) → i < 2 * length bytes → (i % 2 ≡ 0 → ⊥) → get_or bytes (i / 2) 0 < 256 → get_or bytes (i / 2) 0 / 16 ≡ get_or (nibbles_in bytes) i 0
odd_nibble bytes i h n small =
    let o : i % 2 ≡ 1 = grind arith in
    let s : get_or bytes (i / 2) 0 / 16 ≡ get_or bytes (i / 2) 0 / 16 % 16 = omega arith in
    s ∙ sym (high_nibble bytes (i / 2) (omega arith)) ∙ ap (λ k. get_or (nibbles_in bytes) k 0) (let q : 2 * (i / 2) + 1 ≡ i = omega (arith, o) in q)
