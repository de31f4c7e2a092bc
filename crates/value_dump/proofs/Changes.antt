-- The lines of the signals that changed.
use Rattle.std.proofs.Common.{◌≡◌, ◌≢◌, ℕ, zero, suc, ◌+◌, ◌*◌, ◌<◌, ◌≤◌, List, [], ◌∷◌, ◌++◌, length, refl, ◌∙◌, ap}
use Rattle.std.proofs.Common.{arith, length-append, inl, inr, Option, None, Some, Bool, true, false, cond, set}
use Rattle.std.proofs.Common.{replicate, append-nil, ◌-◌}
use Rattle.std.specs.Prelude.{◌==◌}
use Rattle.std.proofs.lemmas.List.{get_or-set_same, get_or-set_other}
use Rattle.std.proofs.lemmas.Bool.{cases_eq}
use Rattle.std.proofs.lemmas.Bool.Decides.{nat_tests}
use Rattle.value_dump.specs.Dump.{change, changes, changes_of, has_value, known}
use Rattle.value_dump.specs.Lines.{binary, code_of, value_line}
use Rattle.value_dump.specs.Signals.{is_bit, last_told}
use Rattle.value_dump.proofs.BinaryDigits.{few_digits}

abbrev pub Values : Type 0
Values = ℕ → Option ℕ

-- a line has at most 36 bytes
short_line : (number value : ℕ) → length (value_line number value) ≤ 36
short_line number value = by (is_bit number) where
  scalar : List ℕ
  scalar = binary value ++ code_of number ∷ 10 ∷ []

  vector : List ℕ
  vector = 98 ∷ (binary value ++ 32 ∷ code_of number ∷ 10 ∷ [])

  by : (t : Bool) → length (cond t (binary value ++ code_of number ∷ 10 ∷ [])
      (98 ∷ (binary value ++ 32 ∷ code_of number ∷ 10 ∷ []))) ≤ 36
  by true =
      (let h = few_digits value in
      let l = length-append (binary value) (code_of number ∷ 10 ∷ []) in omega (arith, h, l))
  by false =
      (let h = few_digits value in
      let l = length-append (binary value) (32 ∷ code_of number ∷ 10 ∷ []) in omega (arith, h, l))

chosen : (line : List ℕ) → length line ≤ 36 → (t : Bool) → length (cond t [] line) ≤ 36
chosen line h true = omega arith
chosen line h false = h

pub short_change : (number : ℕ) (old new : Option ℕ) → length (change number old new) ≤ 36
short_change number old None = omega arith
short_change number old (Some value) =
    chosen (value_line number value) (short_line number value) (has_value old value)

-- values that are the same for so many signals have the same lines
pub same_changes : (count : ℕ) (old old2 new new2 : Values) → ((n : ℕ) → n < count → old n ≡ old2 n) →
    ((n : ℕ) → n < count → new n ≡ new2 n) → changes_of count old new ≡ changes_of count old2 new2
same_changes zero old old2 new new2 h k = refl
same_changes (suc n) old old2 new new2 h k =
    ap (λ (l : List ℕ). l ++ change n (old n) (new n))
    (same_changes n old old2 new new2 (λ m l. h m (omega (arith, l))) (λ m l. k m (omega (arith, l))))
    ∙ ap (λ (v : Option ℕ). changes_of n old2 new2 ++ change n v (new n)) (h n (omega arith))
    ∙ ap (λ (v : Option ℕ). changes_of n old2 new2 ++ change n (old2 n) v) (k n (omega arith))

-- all lines
pub few_changes : (count : ℕ) (old new : Values) → length (changes_of count old new) ≤ 36 * count
few_changes zero old new = omega arith
few_changes (suc n) old new =
    let h = few_changes n old new in
    let k = short_change n (old n) (new n) in
    let l = length-append (changes_of n old new) (change n (old n) (new n)) in
    omega (arith, h, k, l)

-- those of fewer signals are not longer
pub front_changes : (count more : ℕ) (old new : Values) →
    length (changes_of count old new) ≤ length (changes_of (more + count) old new)
front_changes count zero old new = (let e : zero + count ≡ count = omega arith in
    let k = ap (λ (n : ℕ). length (changes_of n old new)) e in omega (arith, k))
front_changes count (suc m) old new =
    let e : suc m + count ≡ suc (m + count) = omega arith in
    let g = ap (λ (n : ℕ). length (changes_of n old new)) e in
    let h = front_changes count m old new in
    let l = length-append (changes_of (m + count) old new) (change (m + count) (old (m + count)) (new (m + count))) in
    omega (arith, g, h, l)

-- with another value of one signal they are at most one line longer
pub more_changes : (count number : ℕ) (old new new2 : Values) → ((n : ℕ) → n ≢ number → new2 n ≡ new n) →
    length (changes_of count old new2) ≤ length (changes_of count old new) + 36
more_changes zero number old new new2 h = omega arith
more_changes (suc n) number old new new2 h =
    let l = length-append (changes_of n old new) (change n (old n) (new n)) in
    let m = length-append (changes_of n old new2) (change n (old n) (new2 n)) in
    elim (cases_eq n number) [
      | inl e ↦ (
          let k = ap (λ (l : List ℕ). length l) (same_changes n old old new2 new (λ m l. refl)
          (λ m l. h m (λ g. omega (arith, l, e, g)))) in
          let s = short_change n (old n) (new2 n) in
          omega (arith, k, l, m, s)
          )
      | inr d ↦ (
          let k = ap (λ (v : Option ℕ). length (change n (old n) v)) (h n d) in
          let r = more_changes n number old new new2 h in
          omega (arith, k, l, m, r)
          )
    ]

-- nothing changes from one moment to the same
same_value : (number : ℕ) (v : Option ℕ) → change number v v ≡ []
same_value number None = refl
same_value number (Some value) =
    ap (λ (t : Bool). cond t [] (value_line number value))
    (let e : (value == value) ≡ true = grind (arith, nat_tests) in e)

-- signals that did not change have no lines
quiet_changes : (count first : ℕ) (old new : Values) →
    ((n : ℕ) → first ≤ n → n < count + first → new n ≡ old n) →
    changes_of (count + first) old new ≡ changes_of first old new
quiet_changes zero first old new h =
    ap (λ (n : ℕ). changes_of n old new) (let e : zero + first ≡ first = omega arith in e)
quiet_changes (suc count) first old new h =
    let last : ℕ = count + first in
    let e : suc count + first ≡ suc last = omega arith in
    ap (λ (n : ℕ). changes_of n old new) e
    ∙ ap (λ (v : Option ℕ). changes_of last old new ++ change last (old last) v) (h last (omega arith) (omega arith))
    ∙ ap (λ (l : List ℕ). changes_of last old new ++ l) (same_value last (old last))
    ∙ append-nil (changes_of last old new)
    ∙ quiet_changes count first old new (λ n a b. h n a (omega (arith, b)))

pub quiet_between : (first next : ℕ) (old new : Values) → first ≤ next →
    ((n : ℕ) → first ≤ n → n < next → new n ≡ old n) → changes_of next old new ≡ changes_of first old new
quiet_between first next old new le h =
    let e : next ≡ next - first + first = omega (arith, le) in
    ap (λ (n : ℕ). changes_of n old new) e
    ∙ quiet_changes (next - first) first old new (λ n a b. h n a (omega (arith, b, le)))

pub no_changes : (count : ℕ) (values : Values) → changes_of count values values ≡ []
no_changes zero values = refl
no_changes (suc n) values =
    ap (λ (l : List ℕ). l ++ change n (values n) (values n)) (no_changes n values) ∙ same_value n (values n)

-- of all signals
pub all_few : (old new : Values) → length (changes old new) ≤ 36 * 40
unfolding changes
all_few old new = few_changes 40 old new

pub all_same : (values : Values) → changes values values ≡ []
unfolding changes
all_same values = no_changes 40 values

pub all_more : (number : ℕ) (old new new2 : Values) → ((n : ℕ) → n ≢ number → new2 n ≡ new n) →
    length (changes old new2) ≤ length (changes old new) + 36
unfolding changes
all_more number old new new2 h = more_changes 40 number old new new2 h

-- a list of unknown values knows none
pub unknown : (count number : ℕ) → known (replicate count None) number ≡ None
unknown zero number = refl
unknown (suc count) zero = refl
unknown (suc count) (suc number) = unknown count number

-- a value that is set, and all others
pub other_value : (values : List (Option ℕ)) (number value other : ℕ) → other ≢ number →
    known (set values number (Some value)) other ≡ known values other
other_value values number value other h = get_or-set_other values number other (Some value) None h

pub set_value : (values : List (Option ℕ)) (number value : ℕ) → number < length values → (other : ℕ) →
    known (set values number (Some value)) other ≡ last_told other (known values other) ((number, value) ∷ [])
set_value values number value within other = elim (cases_eq other number) [
  | inl e ↦ (
      ap (λ (n : ℕ). known (set values number (Some value)) n) e
      ∙ get_or-set_same values number (Some value) None within
      ∙ ap (λ (t : Bool). cond t (Some value) (known values other))
      (let k : true ≡ (number == other) = grind (arith, nat_tests) in k)
      )
  | inr d ↦ (
      other_value values number value other d
      ∙ ap (λ (t : Bool). cond t (Some value) (known values other))
      (let k : false ≡ (number == other) = grind (arith, nat_tests) in k)
      )
]
