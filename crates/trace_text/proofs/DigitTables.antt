-- The tables hold the digits of their numbers.
use Rattle.std.proofs.Common.{◌≡◌, ℕ, ◌+◌, ◌*◌, ◌<◌, ◌≤◌, List, [], ◌∷◌, ◌++◌, take, drop, Bool, true, false, refl, sym, ◌∙◌, ap, arith}
use Rattle.std.specs.Prelude.{◌/◌, ◌%◌, codes, decimal}
use Rattle.std.proofs.lemmas.Bool.Decides.{nat_tests}
use Rattle.std.proofs.lemmas.Fmt.{decimal_digit}
use Rattle.itoa.proofs.Decimal.{decimal_two, decimal_pair}
use Rattle.trace_text.specs.Pairs.{pair}
use Rattle.std.specs.Str.{bytes_eq}
use Rattle.std.proofs.lemmas.Slice.Eq.{bytes_eq-Decides}
use Rattle.stp_grammar.proofs.Tables.{under, below}
use lib.Dec.{leb}
use mir.Val.{bool_byte}
use Rattle.trace_text.specs.declared.tables.TheConstants.{NUMBERS, PAIRS, PORTS}

-- the same bytes, where a test says so
pub same_bytes : (xs ys : List ℕ) → bytes_eq xs ys ≡ true → xs ≡ ys
same_bytes xs ys e = (bytes_eq-Decides xs ys).0 e

pub pairs : (n : ℕ) → n < 100 → take 2 (drop (2 * n) PAIRS.now) ≡ pair n
unfolding under
pairs n l = same_bytes _ _ (below (λ k. bytes_eq (take 2 (drop (2 * k) PAIRS.now)) (pair k)) 100 n l refl)

-- how many digits a number below 256 has, by the tests that the code makes
count : ℕ → ℕ
count n = 1 + bool_byte (leb 10 n) + bool_byte (leb 100 n)

-- its digits, by the same tests
digits : Bool → Bool → ℕ → List ℕ
digits two true n = (48 + n / 100) ∷ pair (n % 100)
digits true false n = pair n
digits false false n = (48 + n) ∷ []

are_digits : (n : ℕ) (two three : Bool) → leb 10 n ≡ two → leb 100 n ≡ three → n < 256 → digits two three n ≡ decimal n
unfolding digits
are_digits n true true t u l =
    let small : n / 100 < 10 = omega arith in
    sym (decimal_pair n (grind (arith, nat_tests)) (omega arith) ∙ ap (λ (ds : List ℕ). ds ++ pair (n % 100)) (decimal_digit (n / 100) small))
are_digits n false true t u l =
    let big : 100 ≤ n = grind (arith, nat_tests) in
    let few : n < 10 = grind (arith, nat_tests) in
    absurd (omega arith)
are_digits n true false t u l = sym (decimal_two n (grind (arith, nat_tests)) (grind (arith, nat_tests)))
are_digits n false false t u l = sym (decimal_digit n (grind (arith, nat_tests)))

tabled : (n : ℕ) → n < 256 → take (count n) (drop (4 * n) NUMBERS.now) ≡ digits (leb 10 n) (leb 100 n) n
unfolding under digits count
tabled n l =
    same_bytes _ _ (below (λ k. bytes_eq (take (count k) (drop (4 * k) NUMBERS.now)) (digits (leb 10 k) (leb 100 k) k)) 256 n l refl)

pub short : (n : ℕ) → n < 256 →
    take (1 + bool_byte (leb 10 n) + bool_byte (leb 100 n)) (drop (4 * n) NUMBERS.now) ≡ decimal n
unfolding count
short n l = tabled n l ∙ are_digits n (leb 10 n) (leb 100 n) refl refl l

pub most : (a b : Bool) → 1 + bool_byte a + bool_byte b ≤ 3
most a b = elim a as (λ t. 1 + bool_byte t + bool_byte b ≤ 3) [
  | true ↦ elim b as (λ t. 1 + bool_byte true + bool_byte t ≤ 3) [ true ↦ omega arith | false ↦ omega arith ]
  | false ↦ elim b as (λ t. 1 + bool_byte false + bool_byte t ≤ 3) [ true ↦ omega arith | false ↦ omega arith ]
]

pub most_of_port : (a : Bool) → 7 + bool_byte a ≤ 8
most_of_port a = elim a as (λ t. 7 + bool_byte t ≤ 8) [ true ↦ omega arith | false ↦ omega arith ]

tabled_port : (n : ℕ) → n < 32 →
    take (7 + bool_byte (leb 10 n)) (drop (8 * n) PORTS.now) ≡ codes "port " ++ (digits (leb 10 n) false n ++ codes " ")
unfolding under digits
tabled_port n l =
    same_bytes _ _ (below (λ k. bytes_eq (take (7 + bool_byte (leb 10 k)) (drop (8 * k) PORTS.now)) (codes "port " ++ (digits (leb 10 k) false k ++ codes " "))) 32 n l refl)

pub port : (n : ℕ) → n < 32 →
    take (7 + bool_byte (leb 10 n)) (drop (8 * n) PORTS.now) ≡ codes "port " ++ (decimal n ++ codes " ")
port n l =
    let small : leb 100 n ≡ false = grind (arith, nat_tests) in
    tabled_port n l ∙ ap (λ (ds : List ℕ). codes "port " ++ (ds ++ codes " ")) (are_digits n (leb 10 n) false refl small (omega arith))
