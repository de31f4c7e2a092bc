-- The nibbles of a number, one by one.
use Rattle.std.proofs.Common.{◌≡◌, ℕ, zero, suc, ◌+◌, ◌-◌, ◌/◌, ◌%◌, ◌^◌, ◌<◌, List, [], ◌∷◌, ◌++◌, length, get_or, take, sym, ◌∙◌, ap, subst, arith, append_assoc}
use Rattle.std.proofs.Math.Nat.{pow-succ', div-div-eq-div-mul}
use Rattle.std.proofs.lemmas.List.{take_more, take_all, get_or-reverse}
use Rattle.stp_encoder.specs.Names.{nibble_at, Order, Msn, Lsn, digits, nibbles_of_number}
use Rattle.stp_grammar.proofs.ShortSpellings.{number_spelled}

digits_at : (count value i : ℕ) → i < count → get_or (digits count value) i 0 ≡ nibble_at value i
digits_at zero value i h = absurd (omega (arith, h))
digits_at (suc count) value zero h = omega arith
digits_at (suc count) value (suc i) h =
    let k = digits_at count (value / 16) i (omega (arith, h)) in
    let e : value / 16 / 16 ^ i ≡ value / 16 ^ suc i = div-div-eq-div-mul value 16 (16 ^ i) ∙ ap (λ (z : ℕ). value / z) (sym (pow-succ' 16 i)) in
    k ∙ ap (λ (z : ℕ). z % 16) e

-- the place, from the low end, of a nibble of so many
abbrev pub place_in : Order → ℕ → ℕ → ℕ
place_in Lsn count i = i
place_in Msn count i = count - 1 - i

nibble_of : (order : Order) (count value i : ℕ) → value < 16 ^ count → i < count → get_or (nibbles_of_number order count value) i 0 ≡ nibble_at value (place_in order count i)
nibble_of Lsn count value i f h = digits_at count value i h
nibble_of Msn count value i f h =
    let l : length (digits count value) ≡ count = (number_spelled Lsn count value f).0 in
    get_or-reverse (digits count value) i 0 (omega (arith, l, h))
    ∙ ap (λ (z : ℕ). get_or (digits count value) (z - 1 - i) 0) l
    ∙ digits_at count value (count - 1 - i) (omega (arith, h))

-- one nibble more, and all of them
pub number_more : (order : Order) (count value i : ℕ) → value < 16 ^ count → i < count →
    take (i + 1) (nibbles_of_number order count value) ≡ take i (nibbles_of_number order count value) ++ nibble_at value (place_in order count i) ∷ []
number_more order count value i f h =
    let l : length (nibbles_of_number order count value) ≡ count = (number_spelled order count value f).0 in
    take_more (nibbles_of_number order count value) i 0 (omega (arith, l, h))
    ∙ ap (λ (z : ℕ). take i (nibbles_of_number order count value) ++ z ∷ []) (nibble_of order count value i f h)

pub number_all : (order : Order) (count value : ℕ) → value < 16 ^ count → take count (nibbles_of_number order count value) ≡ nibbles_of_number order count value
number_all order count value f =
    let l : length (nibbles_of_number order count value) ≡ count = (number_spelled order count value f).0 in
    take_all count (nibbles_of_number order count value) (omega (arith, l))

-- a part of a list that grows by one
pub more_taken : (P : List ℕ → Type 0) (n xs : List ℕ) (i b : ℕ) → take (i + 1) xs ≡ take i xs ++ b ∷ [] → P ((n ++ take i xs) ++ b ∷ []) → P (n ++ take (i + 1) xs)
more_taken P n xs i b e p = subst P (append_assoc n (take i xs) (b ∷ []) ∙ ap (λ (l : List ℕ). n ++ l) (sym e)) p

pub all_taken : (P : List ℕ → Type 0) (n xs : List ℕ) (k : ℕ) → take k xs ≡ xs → P (n ++ take k xs) → P (n ++ xs)
all_taken P n xs k e p = subst P (ap (λ (l : List ℕ). n ++ l) e) p
