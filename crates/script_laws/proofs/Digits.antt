-- Hexadecimal digits of numbers, and the numbers that they say.
use Rattle.std.proofs.Common.{◌≡◌, ℕ, zero, suc, ◌+◌, ◌*◌, ◌/◌, ◌%◌, ◌^◌, ◌<◌, ◌≤◌, List, [], ◌∷◌, length, refl, sym}
use Rattle.std.proofs.Common.{◌∙◌, ap, arith, Bool, true, false, map, slice_index, ◌==◌, ◌&&◌, if◌then◌else◌}
use Rattle.std.specs.List.{list_all}
use Rattle.std.specs.Char.{is_ascii_hexdigit, digit_value}
use Rattle.std.specs.Str.Parse.{digits_value, digits_value_after}
use Rattle.std.proofs.lemmas.Int.Digits.{digits_value-lt}
use Rattle.std.proofs.lemmas.Bool.Decides.{nat_tests}
use Rattle.std.proofs.lemmas.Nat.{mod-mul-add, div-mul-add, mul-le}
use Rattle.std.proofs.Math.Nat.{pow-zero, pow-suc, mul_comm, mul_assoc, add-mul, mod-eq_of_lt, div-add-mod}
use Rattle.hex.specs.Hex.{lower_digits}
use Rattle.script_laws.specs.Names.{nibble_at, hex_digits}
use Rattle.script_text.proofs.Hexadecimals.{all_digits, digit_small, and_left, and_right, both}
use Rattle.script_laws.specs.Lowered.{lowered}

-- a test holds of all numbers below n
unfoldable pub below : (ℕ → Bool) → ℕ → Bool
below test zero = true
below test (suc n) = test n && below test n

pub below_holds : (test : ℕ → Bool) (n b : ℕ) → below test n ≡ true → b < n → test b ≡ true
unfolding below
below_holds test zero b h less = absurd (omega arith)
below_holds test (suc n) b h less = by (b == n) refl (λ less. below_holds test n b (and_right (test n) (below test n) h) less)
  where
    by : (v : Bool) → (b == n) ≡ v → (b < n → test b ≡ true) → test b ≡ true
    by true e more = (let same : b ≡ n = grind (arith, nat_tests) in ap test same ∙ and_left (test n) (below test n) h)
    by false e more = more (let differ : (b ≡ n → ⊥) = (λ q. grind (arith, nat_tests)) in grind (arith, nat_tests))

pub digit_hexadecimal : (d : ℕ) → d < 16 → is_ascii_hexdigit (slice_index lower_digits d) ≡ true
unfolding below
digit_hexadecimal d h = below_holds (λ d. is_ascii_hexdigit (slice_index lower_digits d)) 16 d refl h

pub digit_says : (d : ℕ) → d < 16 → digit_value (slice_index lower_digits d) ≡ d
unfolding below
digit_says d h =
    let e : (digit_value (slice_index lower_digits d) == d) ≡ true = below_holds (λ d. digit_value (slice_index lower_digits d) == d) 16 d refl h in
    grind (arith, nat_tests)

nibble_small : (v k : ℕ) → nibble_at v k < 16
nibble_small v k = omega arith

pub digits_length : (n v : ℕ) → length (hex_digits n v) ≡ n
unfolding hex_digits
digits_length zero v = refl
digits_length (suc n) v = let e = digits_length n v in omega arith

pub digits_hexadecimal : (n v : ℕ) → list_all is_ascii_hexdigit (hex_digits n v) ≡ true
unfolding hex_digits
digits_hexadecimal zero v = refl
digits_hexadecimal (suc n) v =
    both (is_ascii_hexdigit (slice_index lower_digits (nibble_at v n))) (list_all is_ascii_hexdigit (hex_digits n v)) (digit_hexadecimal (nibble_at v n) (nibble_small v n)) (digits_hexadecimal n v)

-- the last nibbles of a number, by the first of them
nibble_first : (p v : ℕ) → 0 < p → v % (p * 16) ≡ v / p % 16 * p + v % p
nibble_first p v h =
    let q = v / p in
    let r = v % p in
    let whole : p * q + r ≡ v = div-add-mod v p in
    let less : r < p = omega arith in
    let parts : q ≡ q / 16 * 16 + q % 16 = omega arith in
    let top : (q % 16 + 1) * p ≤ 16 * p = mul-le (q % 16 + 1) p 16 p (omega arith) (omega arith) in
    let a : (q % 16 + 1) * p ≡ q % 16 * p + 1 * p = add-mul (q % 16) 1 p in
    let b : p * q ≡ q * p = mul_comm p q in
    let c : q * p ≡ (q / 16 * 16 + q % 16) * p = ap (λ x. x * p) parts in
    let d : (q / 16 * 16 + q % 16) * p ≡ q / 16 * 16 * p + q % 16 * p = add-mul (q / 16 * 16) (q % 16) p in
    let e : q / 16 * 16 * p ≡ q / 16 * (16 * p) = mul_assoc (q / 16) 16 p in
    let f : 16 * p ≡ p * 16 = mul_comm 16 p in
    let g : q / 16 * (16 * p) ≡ q / 16 * (p * 16) = ap (λ x. q / 16 * x) f in
    let sum : v ≡ q / 16 * (p * 16) + (q % 16 * p + r) = omega arith in
    let small : q % 16 * p + r < p * 16 = omega arith in
    ap (λ x. x % (p * 16)) sum ∙ mod-mul-add (q / 16) (p * 16) (q % 16 * p + r) small

some : (n : ℕ) → 0 < 16 ^ n
some zero = omega (arith, pow-zero 16)
some (suc n) = let h = some n in let e = pow-suc 16 n in omega arith

-- what digits say after a number
after_is : (m n v : ℕ) → digits_value_after 16 m (hex_digits n v) ≡ m * 16 ^ n + v % 16 ^ n
unfolding hex_digits
after_is m zero v =
    let e : 16 ^ 0 ≡ 1 = pow-zero 16 in
    let f : m * 16 ^ 0 ≡ m * 1 = ap (λ x. m * x) e in
    let g : v % 16 ^ 0 ≡ v % 1 = ap (λ x. v % x) e in
    omega arith
after_is m (suc n) v =
    let p = 16 ^ n in
    let d = nibble_at v n in
    let says : digit_value (slice_index lower_digits d) ≡ d = digit_says d (nibble_small v n) in
    let ih : digits_value_after 16 (m * 16 + d) (hex_digits n v) ≡ (m * 16 + d) * p + v % p = after_is (m * 16 + d) n v in
    let more : 16 ^ suc n ≡ p * 16 = pow-suc 16 n in
    let last : v % (p * 16) ≡ d * p + v % p = nibble_first p v (some n) in
    let a : (m * 16 + d) * p ≡ m * 16 * p + d * p = add-mul (m * 16) d p in
    let b : m * 16 * p ≡ m * (16 * p) = mul_assoc m 16 p in
    let c : m * (16 * p) ≡ m * (p * 16) = ap (λ x. m * x) (mul_comm 16 p) in
    let e : m * 16 ^ suc n ≡ m * (p * 16) = ap (λ x. m * x) more in
    let f : v % 16 ^ suc n ≡ v % (p * 16) = ap (λ x. v % x) more in
    ap (λ x. digits_value_after 16 (m * 16 + x) (hex_digits n v)) says ∙ ih ∙ omega arith

-- a number says itself in enough digits
pub digits_say : (n v : ℕ) → v < 16 ^ n → digits_value 16 (hex_digits n v) ≡ v
digits_say n v h =
    let a = after_is 0 n v in
    let b : v % 16 ^ n ≡ v = mod-eq_of_lt h in
    let z : 0 * 16 ^ n ≡ 0 = omega arith in
    omega arith

-- and digits are those of the number that they say
after_value : (m : ℕ) (text : List ℕ) → digits_value_after 16 m text ≡ m * 16 ^ length text + digits_value 16 text
after_value m [] =
    let f : m * 16 ^ 0 ≡ m * 1 = ap (λ x. m * x) (pow-zero 16) in
    omega arith
after_value m (c ∷ text) =
    let p = 16 ^ length text in
    let d = digit_value c in
    let a : digits_value_after 16 (m * 16 + d) text ≡ (m * 16 + d) * p + digits_value 16 text = after_value (m * 16 + d) text in
    let b : digits_value_after 16 (0 * 16 + d) text ≡ (0 * 16 + d) * p + digits_value 16 text = after_value (0 * 16 + d) text in
    let z : (0 * 16 + d) * p ≡ d * p = ap (λ x. x * p) (let w : 0 * 16 + d ≡ d = omega arith in w) in
    let more : 16 ^ suc (length text) ≡ p * 16 = pow-suc 16 (length text) in
    let e : m * 16 ^ suc (length text) ≡ m * (p * 16) = ap (λ x. m * x) more in
    let f : (m * 16 + d) * p ≡ m * 16 * p + d * p = add-mul (m * 16) d p in
    let g : m * 16 * p ≡ m * (16 * p) = mul_assoc m 16 p in
    let h : m * (16 * p) ≡ m * (p * 16) = ap (λ x. m * x) (mul_comm 16 p) in
    omega arith

digit_less : (c : ℕ) → is_ascii_hexdigit c ≡ true → c < 103
digit_less c h = grind (arith, nat_tests)

pub same_number : (a b : ℕ) → (a == b) ≡ true → a ≡ b
same_number a b e = grind (arith, nat_tests)

-- a hexadecimal digit in lower case is that of its value
digit_lowered : (c : ℕ) → is_ascii_hexdigit c ≡ true → lowered c ≡ slice_index lower_digits (digit_value c)
unfolding below
digit_lowered c h =
    let t : (if is_ascii_hexdigit c then lowered c == slice_index lower_digits (digit_value c) else true) ≡ true =
    below_holds (λ c. if is_ascii_hexdigit c then lowered c == slice_index lower_digits (digit_value c) else true) 103 c refl (digit_less c h) in
    same_number (lowered c) (slice_index lower_digits (digit_value c)) (rw h at t)

lowered_from : (m : ℕ) (text : List ℕ) → list_all is_ascii_hexdigit text ≡ true →
    map lowered text ≡ hex_digits (length text) (digits_value_after 16 m text)
unfolding hex_digits
lowered_from m [] h = refl
lowered_from m (c ∷ text) h =
    let one = and_left (is_ascii_hexdigit c) (list_all is_ascii_hexdigit text) h in
    let rest = and_right (is_ascii_hexdigit c) (list_all is_ascii_hexdigit text) h in
    let d = digit_value c in
    let p = 16 ^ length text in
    let v = digits_value_after 16 (m * 16 + d) text in
    let is : v ≡ (m * 16 + d) * p + digits_value 16 text = after_value (m * 16 + d) text in
    let small : digits_value 16 text < p = digits_value-lt 16 text (all_digits text rest) in
    let less : d < 16 = digit_small c one in
    let over : v / p ≡ m * 16 + d = ap (λ x. x / p) is ∙ div-mul-add (m * 16 + d) p (digits_value 16 text) small in
    let nibble : nibble_at v (length text) ≡ d = ap (λ x. x % 16) over ∙ mod-mul-add m 16 d less in
    ap (λ x. x ∷ map lowered text) (digit_lowered c one ∙ ap (λ x. slice_index lower_digits x) (sym nibble))
    ∙ ap (λ l. slice_index lower_digits (nibble_at v (length text)) ∷ l) (lowered_from (m * 16 + d) text rest)

pub lowered_digits : (count : ℕ) (text : List ℕ) (v : ℕ) → length text ≡ count → list_all is_ascii_hexdigit text ≡ true → digits_value 16 text ≡ v →
    map lowered text ≡ hex_digits count v
lowered_digits count text v len all is =
    lowered_from 0 text all ∙ ap (λ n. hex_digits n (digits_value 16 text)) len ∙ ap (hex_digits count) is
