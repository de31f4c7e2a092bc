-- The number of some nibbles, taken out of that of 16.
use Rattle.std.proofs.Common.{◌≡◌, ℕ, zero, suc, ◌+◌, ◌-◌, ◌*◌, ◌/◌, ◌^◌, ◌<◌, ◌≤◌, List, [], ◌∷◌, ◌++◌, length}
use Rattle.std.proofs.Common.{length-append, take, drop, get_or, sym, ◌∙◌, ap, subst, arith}
use Rattle.std.proofs.Math.Nat.{pow-suc, mul-le-mul_right}
use Rattle.std.proofs.lemmas.Nat.{div-mul-add, pow-add}
use Rattle.trace_clock.proofs.LastWords.{pow_of}
use Rattle.stp_codec.specs.Names.{Msn, number}
use Rattle.stp_codec.specs.Wholes.{nibbles_in, between}
use Rattle.stp_codec.proofs.Between.{length-nibbles, between_parts, length-between}

abbrev AreNibbles : List ℕ → Type 0
AreNibbles [] = Unit {0}
AreNibbles (b ∷ r) = (b < 16) × AreNibbles r

are_nibbles : (bytes : List ℕ) → AreNibbles (nibbles_in bytes)
are_nibbles [] = tt
are_nibbles (b ∷ bytes) = (omega arith, (omega arith, are_nibbles bytes))

nibbles_take : (n : ℕ) (r : List ℕ) → AreNibbles r → AreNibbles (take n r)
nibbles_take zero r h = tt
nibbles_take (suc n) [] h = tt
nibbles_take (suc n) (b ∷ r) h = (h.0, nibbles_take n r h.1)

nibbles_drop : (n : ℕ) (r : List ℕ) → AreNibbles r → AreNibbles (drop n r)
nibbles_drop zero r h = h
nibbles_drop (suc n) [] h = tt
nibbles_drop (suc n) (b ∷ r) h = nibbles_drop n r h.1

between_nibbles : (bytes : List ℕ) (start end : ℕ) → AreNibbles (between (nibbles_in bytes) start end)
between_nibbles bytes start end = nibbles_take (end - start) (drop start (nibbles_in bytes)) (nibbles_drop start (nibbles_in bytes) (are_nibbles bytes))

number_fits : (r : List ℕ) → AreNibbles r → number Msn r < 16 ^ length r
number_fits [] h = omega arith
number_fits (b ∷ r) h =
    let k = number_fits r h.1 in
    let p : 16 ^ suc (length r) ≡ 16 ^ length r * 16 = pow-suc 16 (length r) in
    let q : b * 16 ^ length r ≤ 15 * 16 ^ length r = mul-le-mul_right (16 ^ length r) (let l = h.0 in omega (arith, l)) in
    omega (arith, k, p, q)

number_append : (x y : List ℕ) → number Msn (x ++ y) ≡ number Msn x * 16 ^ length y + number Msn y
number_append [] y = omega arith
number_append (b ∷ x) y =
    let k = number_append x y in
    let e : 16 ^ length (x ++ y) ≡ 16 ^ length x * 16 ^ length y = ap (λ n. 16 ^ n) (length-append x y) ∙ pow-add 16 (length x) (length y) in
    let f : b * 16 ^ length (x ++ y) ≡ b * (16 ^ length x * 16 ^ length y) = ap (λ z. b * z) e in
    omega (arith, k, f)

-- those of a word, one by one
each_nibble : (r : List ℕ) → AreNibbles r → (i : ℕ) → get_or r i 0 < 16
each_nibble [] h i = omega arith
each_nibble (b ∷ r) h zero = h.0
each_nibble (b ∷ r) h (suc i) = each_nibble r h.1 i

pub nibbles_fit : (bytes : List ℕ) (start end i : ℕ) → get_or (between (nibbles_in bytes) start end) i 0 < 16
nibbles_fit bytes start end i = each_nibble (between (nibbles_in bytes) start end) (between_nibbles bytes start end) i

pub between_fits : (bytes : List ℕ) (start more : ℕ) → start + more ≤ 2 * length bytes → number Msn (between (nibbles_in bytes) start (start + more)) < 16 ^ more
between_fits bytes start more h =
    let xs = nibbles_in bytes in
    subst (λ n. number Msn (between xs start (start + more)) < 16 ^ n) (length-between xs more start (let l = length-nibbles bytes in omega (arith, h, l)))
    (number_fits (between xs start (start + more)) (between_nibbles bytes start (start + more)))

-- the first of 16
pub first_ones : (bytes : List ℕ) (start more : ℕ) → more ≤ 16 → start + 16 ≤ 2 * length bytes →
    number Msn (between (nibbles_in bytes) start (start + 16)) / 2 ^ (64 - 4 * more) ≡ number Msn (between (nibbles_in bytes) start (start + more))
first_ones bytes start more h l =
    let xs = nibbles_in bytes in
    let k = length-nibbles bytes in
    let a = between xs start (start + more) in
    let d = between xs (start + more) (start + 16) in
    let e : start + more + (16 - more) ≡ start + 16 = omega (arith, h) in
    let ld : length d ≡ 16 - more = ap (λ n. length (between xs (start + more) n)) (sym e) ∙ length-between xs (16 - more) (start + more) (omega (arith, e, k, l)) in
    let p : 2 ^ (64 - 4 * more) ≡ 16 ^ length d =
    ap (λ n. 2 ^ n) (let q : 64 - 4 * more ≡ 4 * (16 - more) = omega (arith, h) in q) ∙ pow_of (16 - more) ∙ ap (λ n. 16 ^ n) (sym ld) in
    ap (λ r. number Msn r / 2 ^ (64 - 4 * more)) (between_parts xs more start (start + 16) (omega (arith, h)) (omega (arith, h, k, l)))
    ∙ ap (λ n. n / 2 ^ (64 - 4 * more)) (number_append a d)
    ∙ ap (λ n. (number Msn a * 16 ^ length d + number Msn d) / n) p
    ∙ div-mul-add (number Msn a) (16 ^ length d) (number Msn d) (number_fits d (between_nibbles bytes (start + more) (start + 16)))
