-- The hexadecimal digits of bytes are those of their nibbles.
use Rattle.std.proofs.Common.{◌≡◌, ℕ, zero, suc, ◌+◌, ◌-◌, ◌*◌, ◌/◌, ◌%◌, ◌^◌, ◌<◌, ◌≤◌, List, [], ◌∷◌, take, refl, sym, ◌∙◌, ap, arith}
use Rattle.std.specs.Prelude.{slice_index}
use Rattle.std.specs.Int.{bytes_high_first, byte_at}
use Rattle.std.proofs.Math.Nat.{div-div-eq-div-mul, mul-div-mul_right, mod-eq_of_lt, pow-zero, pow-suc}
use Rattle.std.proofs.lemmas.Nat.{pow-add, mul-pow, mul-le}
use Rattle.trace_clock.proofs.LastWords.{pow_of}
use Rattle.hex.specs.Hex.{encode_with, lower_digits, encode_lower}
use Rattle.trace_clock.specs.LastWord.{nibble_at}
use Rattle.trace_text.specs.HexDigits.{hex_digits}

-- twice a number
abbrev pub double : ℕ → ℕ
double zero = zero
double (suc k) = suc (suc (double k))

double_is : (k : ℕ) → double k ≡ k + k
double_is zero = refl
double_is (suc k) = let e = double_is k in omega arith

square : (k : ℕ) → 256 ^ k ≡ 16 ^ double k
square k = mul-pow 16 16 k ∙ sym (pow-add 16 k k) ∙ ap (λ j. 16 ^ j) (sym (double_is k))

byte_is : (k n : ℕ) → byte_at k n ≡ n / 16 ^ double k % 256
byte_is zero n = let e : n / 16 ^ 0 ≡ n / 1 = ap (λ p. n / p) (pow-zero 16) in omega arith
byte_is (suc k) n = ap (λ p. n / p % 256) (square (suc k))

low : (k n : ℕ) → byte_at k n % 16 ≡ nibble_at n (double k)
low k n = let e = byte_is k n in omega arith

high : (k n : ℕ) → byte_at k n / 16 ≡ nibble_at n (suc (double k))
high k n =
    let e = byte_is k n in
    let p : 16 ^ suc (double k) ≡ 16 ^ double k * 16 = pow-suc 16 (double k) in
    let q : n / 16 ^ double k / 16 ≡ n / (16 ^ double k * 16) = div-div-eq-div-mul n (16 ^ double k) 16 in
    let r : n / 16 ^ suc (double k) ≡ n / (16 ^ double k * 16) = ap (λ x. n / x) p in
    omega arith

-- a number's last bytes have its last nibbles' digits
pub encoded : (k n : ℕ) → encode_lower (bytes_high_first k n) ≡ hex_digits (double k) n
unfolding encode_with hex_digits
encoded zero n = refl
encoded (suc k) n =
    ap (λ d. slice_index lower_digits d ∷ slice_index lower_digits (byte_at k n % 16) ∷ encode_lower (bytes_high_first k n)) (high k n)
    ∙ ap (λ d. slice_index lower_digits (nibble_at n (suc (double k))) ∷ slice_index lower_digits d ∷ encode_lower (bytes_high_first k n)) (low k n)
    ∙ ap (λ ds. slice_index lower_digits (nibble_at n (suc (double k))) ∷ slice_index lower_digits (nibble_at n (double k)) ∷ ds) (encoded k n)

some : (a : ℕ) → 0 < 16 ^ a
some zero = omega (arith, pow-zero 16)
some (suc a) = let h = some a in let e = pow-suc 16 a in omega arith

-- the first digits of a number with zeros after it are its own
pub first : (n m a v : ℕ) → m ≡ n + a → take n (hex_digits m (v * 16 ^ a)) ≡ hex_digits n v
unfolding hex_digits
first zero m a v e = refl
first (suc n) zero a v e = absurd (omega arith)
first (suc n) (suc m) a v e =
    let f : m ≡ n + a = omega arith in
    let p : 16 ^ m ≡ 16 ^ n * 16 ^ a = ap (λ j. 16 ^ j) f ∙ pow-add 16 n a in
    let q : nibble_at (v * 16 ^ a) m ≡ nibble_at v n =
    ap (λ x. v * 16 ^ a / x % 16) p ∙ ap (λ x. x % 16) (mul-div-mul_right v (16 ^ n) (some a)) in
    ap (λ d. slice_index lower_digits d ∷ take n (hex_digits m (v * 16 ^ a))) q
    ∙ ap (λ ds. slice_index lower_digits (nibble_at v n) ∷ ds) (first n m a v f)

-- a number of these nibbles, moved to the top of a word of sixteen
pub moved : (count number : ℕ) → count ≤ 16 → number < 16 ^ count → number * 2 ^ (64 - 4 * count) % 2 ^ 64 ≡ number * 16 ^ (16 - count)
moved count number few fits =
    let a = 16 - count in
    let e : 64 - 4 * count ≡ 4 * (16 - count) = omega arith in
    let p : 2 ^ (64 - 4 * count) ≡ 16 ^ (16 - count) = ap (λ k. 2 ^ k) e ∙ pow_of (16 - count) in
    let all : count + (16 - count) ≡ 16 = omega arith in
    let q : 16 ^ count * 16 ^ (16 - count) ≡ 2 ^ 64 = sym (pow-add 16 count (16 - count)) ∙ ap (λ k. 16 ^ k) all in
    let more : suc number * 16 ^ (16 - count) ≤ 16 ^ count * 16 ^ (16 - count) = mul-le (suc number) (16 ^ (16 - count)) (16 ^ count) (16 ^ (16 - count)) fits (omega arith) in
    let z = some (16 - count) in
    let least : number * 16 ^ (16 - count) < 2 ^ 64 = omega arith in
    ap (λ x. number * x % 2 ^ 64) p ∙ mod-eq_of_lt least

-- the first digits of the bytes of a word, moved so, are those of the number; or none
pub moved_digits : (count number : ℕ) → count ≤ 16 → number < 16 ^ count →
    take count (encode_lower (bytes_high_first 8 (number * 2 ^ ((64 - 4 * count) % 64) % 2 ^ 64))) ≡ hex_digits count number
unfolding hex_digits
moved_digits zero number few fits = refl
moved_digits (suc n) number few fits =
    let e : (64 - 4 * suc n) % 64 ≡ 64 - 4 * suc n = omega arith in
    ap (λ k. take (suc n) (encode_lower (bytes_high_first 8 (number * 2 ^ k % 2 ^ 64)))) e
    ∙ ap (take (suc n)) (encoded 8 (number * 2 ^ (64 - 4 * suc n) % 2 ^ 64))
    ∙ ap (λ x. take (suc n) (hex_digits 16 x)) (moved (suc n) number few fits)
    ∙ first (suc n) 16 (16 - suc n) number (omega arith)

-- the digits of the first bytes
pub front_digits : (n : ℕ) (bytes : List ℕ) → take (2 * n) (encode_lower bytes) ≡ encode_lower (take n bytes)
unfolding encode_with
front_digits zero bytes = refl
front_digits (suc n) [] = ap (λ k. take k (encode_lower [])) (let e : 2 * suc n ≡ suc (suc (2 * n)) = omega arith in e)
front_digits (suc n) (b ∷ bytes) =
    ap (λ k. take k (encode_lower (b ∷ bytes))) (let e : 2 * suc n ≡ suc (suc (2 * n)) = omega arith in e)
    ∙ ap (λ ds. slice_index lower_digits (b / 16) ∷ slice_index lower_digits (b % 16) ∷ ds) (front_digits n bytes)
