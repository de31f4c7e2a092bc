-- A text names a number within bounds exactly where it is the decimal of one.
use Rattle.std.proofs.Common.{drop, get_or, drop-cons, ◌≡◌, ℕ, zero, suc, subst, ◌+◌, ◌*◌, ◌≤◌, ◌<◌, ◌^◌, List, [], ◌∷◌, length, Bool, true, false, arith, sym, ap, refl, ◌∙◌, Option, Some}
use Rattle.std.proofs.Common.{None, nat_le, if◌then◌else◌}
use Rattle.std.specs.Str.{bytes_eq}
use Rattle.std.specs.Str.Parse.{digits_value, digits_value_after, AllDigits}
use Rattle.std.specs.Char.{digit_value}
use Rattle.std.specs.Fmt.{decimal}
use Rattle.std.proofs.lemmas.Fmt.{digits_value-decimal, decimal-digits_value, decimal_is_IsNumeral, decimal_digit, first_decimal}
use Rattle.std.specs.Prelude.{slice_index, IfSome}
use Rattle.std.proofs.lemmas.Str.Parse.{numerals_by_value, tells_digits}
use Rattle.std.proofs.lemmas.Slice.Eq.{bytes_eq-Decides}
use Rattle.std.proofs.lemmas.Bool.Decides.{nat_tests}
use Rattle.decimal_words.specs.Numbers.{number_named, is_number, HasDigits}

-- what the digits of a decimal say is its number
pub value_of_decimal : (n : ℕ) (text : List ℕ) → n < 2 ^ 64 → text ≡ decimal n → digits_value 10 text ≡ n
value_of_decimal n text h e = ap (digits_value 10) e ∙ digits_value-decimal (numerals_by_value _ tells_digits) n h

holds_of : (least greatest n : ℕ) (text : List ℕ) → least ≤ n → n ≤ greatest → text ≡ decimal n → is_number least greatest text n ≡ true
holds_of least greatest n text low high e = (let same = (bytes_eq-Decides (decimal n) text).1 (sym e) in grind (arith, nat_tests))

facts_of : (least greatest n : ℕ) (text : List ℕ) → is_number least greatest text n ≡ true → (least ≤ n) × (n ≤ greatest) × (text ≡ decimal n)
facts_of least greatest n text h =
    let low : nat_le least n ≡ true = grind arith in
    let high : nat_le n greatest ≡ true = grind arith in
    let same : bytes_eq (decimal n) text ≡ true = grind arith in
    (grind (arith, nat_tests), grind (arith, nat_tests), sym ((bytes_eq-Decides (decimal n) text).0 same))

chosen : (b : Bool) (n : ℕ) → b ≡ true → (if b then Some n else None) ≡ Some n
chosen b n e = rw e refl

pub names_number : (least greatest n : ℕ) (text : List ℕ) → greatest < 2 ^ 64 → least ≤ n → n ≤ greatest → text ≡ decimal n → number_named least greatest text ≡ Some n
names_number least greatest n text small low high e =
    let v : digits_value 10 text ≡ n = value_of_decimal n text (omega arith) e in
    chosen (is_number least greatest text (digits_value 10 text)) (digits_value 10 text) (ap (is_number least greatest text) v ∙ holds_of least greatest n text low high e) ∙ ap Some v

picked : (b : Bool) (n m : ℕ) → (if b then Some n else None) ≡ Some m → (b ≡ true) × (n ≡ m)
picked true n m e = (refl, grind arith)
picked false n m e = absurd (grind arith)

pub number_is : (least greatest n : ℕ) (text : List ℕ) → number_named least greatest text ≡ Some n → (least ≤ n) × (n ≤ greatest) × (text ≡ decimal n)
number_is least greatest n text e =
    let p = picked _ _ _ e in
    facts_of least greatest n text (sym (ap (is_number least greatest text) p.1) ∙ p.0)

-- a text that is no decimal within the bounds names no number
pub names_nothing : (least greatest : ℕ) (text : List ℕ) → ((n : ℕ) → least ≤ n → n ≤ greatest → text ≡ decimal n → ⊥) → None ≡ number_named least greatest text
names_nothing least greatest text never = go (number_named least greatest text) refl
  where
    go : (found : Option ℕ) → found ≡ number_named least greatest text → None ≡ found
    go None e = refl
    go (Some n) e = (let facts = number_is least greatest n text (sym e) in absurd (never n facts.0 facts.1 facts.2))

-- digits after a number say no less
pub value_grows : (n : ℕ) (digits : List ℕ) → n ≤ digits_value_after 10 n digits
value_grows n [] = omega arith
value_grows n (c ∷ digits) = let k = value_grows (n * 10 + digit_value c) digits in omega arith

-- after some digits, of which this is the value, the next one says no more than all
pub next_grows : (v i : ℕ) (digits : List ℕ) → i < length digits → digits_value_after 10 v (drop i digits) ≡ digits_value 10 digits →
    v * 10 + digit_value (get_or digits i 0) ≤ digits_value 10 digits
next_grows v i digits h e =
    let rest = drop (suc i) digits in
    let grows = value_grows (v * 10 + digit_value (get_or digits i 0)) rest in
    let all : digits_value_after 10 v (get_or digits i 0 ∷ rest) ≡ digits_value 10 digits = ap (digits_value_after 10 v) (sym (drop-cons digits i 0 h)) ∙ e in
    subst (λ (m : ℕ). v * 10 + digit_value (get_or digits i 0) ≤ m) all grows

-- digits are the decimal of what they say
pub is_decimal : (text : List ℕ) (n : ℕ) → HasDigits text → n < 2 ^ 64 → AllDigits 10 text × (n ≡ digits_value 10 text) → text ≡ decimal n
is_decimal text n h small said =
    let is : n ≡ digits_value 10 text = said.1 in
    sym (ap decimal is ∙ decimal-digits_value (numerals_by_value _ tells_digits) text said.0 h.0 h.1 (omega arith))

-- and a decimal has digits, which say its number
pub decimal_digits : (n : ℕ) → n < 2 ^ 64 → AllDigits 10 (decimal n)
decimal_digits n h = (decimal_is_IsNumeral n h).0.1

first_digit : (n : ℕ) → n < 2 ^ 64 → slice_index (decimal n) 0 ≡ 48 → length (decimal n) ≡ 1
first_digit zero h e = ap length (decimal_digit 0 (omega arith))
first_digit (suc n) h e = absurd (let k = first_decimal (suc n) (omega arith) h in omega arith)

pub decimal_has : (n : ℕ) (text : List ℕ) → n < 2 ^ 64 → text ≡ decimal n → HasDigits text
decimal_has n text h e = subst HasDigits (sym e) ((decimal_is_IsNumeral n h).0.0, first_digit n h)

-- what is read of digits
pub decimal_if : (text : List ℕ) (o : Option ℕ) → HasDigits text → IfSome o (λ n. (n < 2 ^ 64) × AllDigits 10 text × (n ≡ digits_value 10 text)) → IfSome o (λ n. text ≡ decimal n)
decimal_if text None h said = tt
decimal_if text (Some n) h said = is_decimal text n h said.0 (said.1, said.2)

pub read_if : (text : List ℕ) (o : Option ℕ) (n : ℕ) → n < 2 ^ 64 → text ≡ decimal n →
    IfSome o (λ n. (n < 2 ^ 64) × AllDigits 10 text × (n ≡ digits_value 10 text)) →
    (o ≡ None → AllDigits 10 text → digits_value 10 text < 2 ^ 64 → ⊥) → o ≡ Some n
read_if text (Some m) n small e said none = ap Some (said.2 ∙ value_of_decimal n text small e)
read_if text None n small e said none =
    let v = value_of_decimal n text small e in
    absurd (none refl (subst (AllDigits 10) (sym e) (decimal_digits n small)) (omega arith))
