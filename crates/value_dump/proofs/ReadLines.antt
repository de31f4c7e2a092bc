-- What a reader of a value dump takes from its lines, one after the other.
use Rattle.std.proofs.Common.{◌≡◌, ℕ, ◌^◌, ◌<◌, ◌≤◌, List, [], ◌∷◌, ◌++◌, map, refl, sym, ◌∙◌, ap, arith}
use Rattle.std.proofs.Common.{append_assoc, Bool, true, false, cond, None, Some, inl, inr, subst}
use Rattle.std.specs.Prelude.{◌==◌, ◌||◌, decimal}
use Rattle.std.specs.List.{list_any}
use Rattle.std.specs.Str.Parse.{AllDigits, digits_value}
use Rattle.std.proofs.lemmas.Bool.{cases_eq}
use Rattle.std.proofs.lemmas.Bool.Decides.{nat_tests}
use Rattle.std.proofs.lemmas.Fmt.{decimal_is_IsNumeral_wide, digits_is_IsNumeral}
use Rattle.std.proofs.lemmas.Str.Parse.{digit_from_value}
use Rattle.value_dump.specs.Lines.{binary, code_of, time_line, value_line}
use Rattle.value_dump.specs.Signals.{is_bit}
use Rattle.value_dump.specs.Reading.{Said, Time, Value, is_among, lines_in, number_of, said_by, said_in}
use Rattle.value_dump.specs.Reading.{vector, words_in}
use Rattle.value_dump.proofs.BinaryDigits.{in_binary}
use Rattle.value_dump.proofs.Splits.{neither, split_at, split_more}

-- A text ends with a line, or is empty: what is read of it and a rest is what it says, and then what the rest says.
pub record Says (text : List ℕ) (said : List Said) : Type 0 where
  pub all : (rest : List ℕ) → said_in (text ++ rest) ≡ said ++ said_in rest

pub says_none : Says [] []
says_none = record { all = λ rest. refl }

pub says_more : (a b : List ℕ) (s t : List Said) → Says a s → Says b t → Says (a ++ b) (s ++ t)
says_more a b s t h k = record {
  all = λ rest.
      ap said_in (append_assoc a b rest) ∙ h.all (b ++ rest) ∙ ap (λ (l : List Said). s ++ l) (k.all rest)
      ∙ sym (append_assoc s t (said_in rest));
}

-- a line
pub says_line : (line : List ℕ) → list_any (λ b. b == 10) line ≡ false → Says (line ++ 10 ∷ []) (said_by line ∷ [])
says_line line h = record {
  all = λ rest.
      ap said_in (append_assoc line (10 ∷ []) rest)
      ∙ ap (map said_by) (split_at (λ (b : ℕ). b == 10) line 10 rest h refl);
}

-- a text whose last line is closed
map_more : (parts more : List (List ℕ)) → map said_by (parts ++ more) ≡ map said_by parts ++ map said_by more
map_more [] more = refl
map_more (part ∷ parts) more = ap (λ (l : List Said). said_by part ∷ l) (map_more parts more)

pub says_closed : (text : List ℕ) → Says (text ++ 10 ∷ []) (said_in text)
says_closed text = record {
  all = λ rest.
      ap said_in (append_assoc text (10 ∷ []) rest)
      ∙ ap (map said_by) (split_more (λ (b : ℕ). b == 10) text 10 rest refl)
      ∙ map_more (lines_in text) (lines_in rest);
}

-- digits are none of the bytes that stand elsewhere
pub none_of : (p : ℕ → Bool) → ((c : ℕ) → 48 ≤ c → c ≤ 57 → p c ≡ false) → (base : ℕ) → base ≤ 10 → (ds : List ℕ) →
    AllDigits base ds → list_any p ds ≡ false
none_of p h base le [] all = refl
none_of p h base le (c ∷ cs) all =
    let k = digit_from_value c (omega (arith, le, all.0)) in
    ap (λ (t : Bool). t || list_any p cs) (h c k.0 k.1) ∙ none_of p h base le cs all.1

no_feed : (c : ℕ) → 48 ≤ c → c ≤ 57 → (c == 10) ≡ false
no_feed c a b = grind (arith, nat_tests)

no_blank : (c : ℕ) → 48 ≤ c → c ≤ 57 → (c == 32) ≡ false
no_blank c a b = grind (arith, nat_tests)

no_letter : (c : ℕ) → 48 ≤ c → c ≤ 57 → is_among (120 ∷ 88 ∷ 122 ∷ 90 ∷ []) c ≡ false
no_letter c a b =
    let x : (120 == c) ≡ false = grind (arith, nat_tests) in
    let y : (88 == c) ≡ false = grind (arith, nat_tests) in
    let z : (122 == c) ≡ false = grind (arith, nat_tests) in
    let w : (90 == c) ≡ false = grind (arith, nat_tests) in
    ap (λ (t : Bool). t || ((88 == c) || ((122 == c) || ((90 == c) || false)))) x
    ∙ ap (λ (t : Bool). t || ((122 == c) || ((90 == c) || false))) y
    ∙ ap (λ (t : Bool). t || ((90 == c) || false)) z ∙ ap (λ (t : Bool). t || false) w

-- a time
pub says_time : (time : ℕ) → time < 10 ^ 64 → Says (time_line time) (Time time ∷ [])
says_time time h =
    let k = decimal_is_IsNumeral_wide time h in
    let line : List ℕ = 35 ∷ decimal time in
    subst (Says (time_line time)) (ap (λ (n : ℕ). Time n ∷ []) k.1)
    (says_line (35 ∷ decimal time) (none_of (λ (b : ℕ). b == 10) no_feed 10 (omega arith) (decimal time) k.0.1))

-- the digits of a value
module _ (value : ℕ) (fits : value < 2 ^ 32) where
  numeral : AllDigits 2 (binary value) × (digits_value 2 (binary value) ≡ value)
  numeral =
      let k = digits_is_IsNumeral 2 false (omega arith) (omega arith) value (omega (arith, fits)) in
      subst (λ (l : List ℕ). AllDigits 2 l × (digits_value 2 l ≡ value)) (sym (in_binary value fits)) (k.0.1, k.1)

  pub number_read : number_of (binary value) ≡ Some value
  number_read =
      ap (λ (t : Bool). cond t None (Some (digits_value 2 (binary value))))
      (none_of (is_among (120 ∷ 88 ∷ 122 ∷ 90 ∷ [])) no_letter 2 (omega arith) (binary value) numeral.0)
      ∙ ap (λ (n : ℕ). Some n) numeral.1

  pub no_feeds : list_any (λ b. b == 10) (binary value) ≡ false
  no_feeds = none_of (λ (b : ℕ). b == 10) no_feed 2 (omega arith) (binary value) numeral.0

  pub no_blanks : list_any (λ b. b == 32) (binary value) ≡ false
  no_blanks = none_of (λ (b : ℕ). b == 32) no_blank 2 (omega arith) (binary value) numeral.0

pub any_more : (p : ℕ → Bool) (xs ys : List ℕ) → list_any p xs ≡ false → list_any p ys ≡ false →
    list_any p (xs ++ ys) ≡ false
any_more p [] ys h k = k
any_more p (x ∷ xs) ys h k =
    let both = neither (p x) (list_any p xs) h in
    ap (λ (t : Bool). t || list_any p (xs ++ ys)) both.0 ∙ any_more p xs ys both.1 k

-- The line of a value. What is said of it is the code and the digits.
abbrev pub Told : ℕ → ℕ → Said
Told number value = Value (code_of number ∷ []) (binary value)

vector_line : (number value : ℕ) → value < 2 ^ 32 →
    Says (98 ∷ (binary value ++ 32 ∷ code_of number ∷ 10 ∷ [])) (Told number value ∷ [])
vector_line number value fits =
    let code : (code_of number == 10) ≡ false = grind (arith, nat_tests) in
    let apart : (code_of number == 32) ≡ false = grind (arith, nat_tests) in
    let line : List ℕ = 98 ∷ (binary value ++ 32 ∷ code_of number ∷ []) in
    let last : list_any (λ b. b == 10) (32 ∷ code_of number ∷ []) ≡ false = ap (λ (t : Bool). t || false) code in
    let words : words_in (binary value ++ 32 ∷ code_of number ∷ []) ≡ binary value ∷ (code_of number ∷ []) ∷ [] =
    split_at (λ (b : ℕ). b == 32) (binary value) 32 (code_of number ∷ []) (no_blanks value fits) refl
    ∙ ap (λ (t : Bool). binary value ∷ cond t ([] ∷ [] ∷ []) ((code_of number ∷ []) ∷ [])) apart in
    subst (λ (text : List ℕ). Says text (Told number value ∷ []))
    (ap (λ (l : List ℕ). 98 ∷ l) (append_assoc (binary value) (32 ∷ code_of number ∷ []) (10 ∷ [])))
    (subst (λ (s : Said). Says ((98 ∷ (binary value ++ 32 ∷ code_of number ∷ [])) ++ 10 ∷ []) (s ∷ []))
    (ap vector words)
    (says_line (98 ∷ (binary value ++ 32 ∷ code_of number ∷ []))
    (any_more (λ (b : ℕ). b == 10) (binary value) (32 ∷ code_of number ∷ []) (no_feeds value fits) last)))

zero_line : (number : ℕ) → Says (binary 0 ++ code_of number ∷ 10 ∷ []) (Told number 0 ∷ [])
unfolding binary
zero_line number =
    let code : (code_of number == 10) ≡ false = grind (arith, nat_tests) in
    says_line (48 ∷ code_of number ∷ []) (ap (λ (t : Bool). t || false) code)

one_line : (number : ℕ) → Says (binary 1 ++ code_of number ∷ 10 ∷ []) (Told number 1 ∷ [])
unfolding binary
one_line number =
    let code : (code_of number == 10) ≡ false = grind (arith, nat_tests) in
    says_line (49 ∷ code_of number ∷ []) (ap (λ (t : Bool). t || false) code)

scalar_line : (number value : ℕ) → value < 2 →
    Says (binary value ++ code_of number ∷ 10 ∷ []) (Told number value ∷ [])
scalar_line number value fits = elim (cases_eq value 0) [
  | inl e ↦ subst (λ (v : ℕ). Says (binary v ++ code_of number ∷ 10 ∷ []) (Told number v ∷ [])) (sym e)
      (zero_line number)
  | inr d ↦ (
      let e : value ≡ 1 = omega (arith, fits, d) in
      subst (λ (v : ℕ). Says (binary v ++ code_of number ∷ 10 ∷ []) (Told number v ∷ [])) (sym e) (one_line number)
      )
]

-- a value that the signal can have
abbrev pub bound : ℕ → ℕ
bound number = cond (is_bit number) 2 (2 ^ 32)

pub says_value : (number value : ℕ) → value < bound number → Says (value_line number value) (Told number value ∷ [])
says_value number value = by (is_bit number) where
  by : (t : Bool) → value < cond t 2 (2 ^ 32) → Says (cond t (binary value ++ code_of number ∷ 10 ∷ [])
      (98 ∷ (binary value ++ 32 ∷ code_of number ∷ 10 ∷ []))) (Told number value ∷ [])
  by true h = scalar_line number value h
  by false h = vector_line number value h

pub below_bound : (number value : ℕ) → value < bound number → value < 2 ^ 32
below_bound number value = by (is_bit number) where
  by : (t : Bool) → value < cond t 2 (2 ^ 32) → value < 2 ^ 32
  by true h = omega (arith, h)
  by false h = h
