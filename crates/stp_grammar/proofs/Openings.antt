-- Which rows opcodes begin.
use Rattle.std.proofs.Common.{◌≡◌, ℕ, zero, suc, ◌+◌, ◌-◌, ◌<◌, ◌≤◌, List, [], ◌∷◌, ◌++◌, Bool, true, false, ◌&&◌, ◌==◌, refl, sym, ◌∙◌, ap, subst, ◌⊎◌, inl, inr, arith}
use Rattle.std.specs.Prelude.{None}
use Rattle.std.proofs.lemmas.List.{append-nil}
use Rattle.std.proofs.lemmas.Bool.Decides.{nat_tests}
use Rattle.stp_grammar.specs.Names.{Unsupported, StampSize}
use Rattle.stp_grammar.specs.declared.opcode.Head.TheVariants.{Whole as HeadWhole, More as HeadMore, Refused as HeadRefused}
use Rattle.stp_grammar.specs.declared.packet.Row.{Row}
use Rattle.stp_grammar.specs.Opcodes.{rows, row_at, line_of, row_of, is_front, Opening, Whole as Opened, More, Refused, opening_by, opening_of, head_of}
use Rattle.stp_grammar.specs.Spelling.{opening_fault, why}
use Rattle.stp_grammar.specs.Rule.{first_opening, second_opening, third_opening}
use Rattle.stp_grammar.proofs.EachRow.{AllOf, each, numbered}

-- a fact of each number below a bound
abbrev AllUnder : (ℕ → Type 0) → ℕ → Type 0
AllUnder P zero = Unit {0}
AllUnder P (suc n) = P n × AllUnder P n

under_at : (P : ℕ → Type 0) (n k : ℕ) → AllUnder P n → k < n → P k
under_at P zero k a h = absurd (omega arith)
under_at P (suc n) k a h = elim (split k n (omega arith)) [
  | inl l ↦ under_at P n k a.1 l
  | inr l ↦ subst P (sym l) a.0
] where
  split : (k n : ℕ) → k ≤ n → (k < n) ⊎ (k ≡ n)
  split k n h = grind arith

-- the rows are in the order of their numbers
numbers : AllUnder (λ n. (line_of (row_at n)).number ≡ n) 35
numbers = (refl, (refl, (refl, (refl, (refl, (refl, (refl, (refl, (refl, (refl, (refl, (refl, (refl, (refl, (refl, (refl, (refl, (refl, (refl, (refl, (refl, (refl, (refl, (refl, (refl, (refl, (refl, (refl, (refl, (refl, (refl, (refl, (refl, (refl, (refl, tt)))))))))))))))))))))))))))))))))))

pub number_is : (n : ℕ) → n < 35 → (line_of (row_at n)).number ≡ n
number_is n h = under_at (λ n. (line_of (row_at n)).number ≡ n) 35 n numbers h

-- the opcodes of rows 0 to 14, 15 to 28, 29 and 30, and 31 to 34
abbrev FirstIs : ℕ → Type 0
FirstIs a = (line_of (row_at a)).opcode ≡ a ∷ []

firsts : AllUnder FirstIs 15
firsts = (refl, (refl, (refl, (refl, (refl, (refl, (refl, (refl, (refl, (refl, (refl, (refl, (refl, (refl, (refl, tt)))))))))))))))

abbrev SecondIs : ℕ → Type 0
SecondIs k = (line_of (row_at (15 + k))).opcode ≡ 15 ∷ ((1 + k) ∷ [])

seconds : AllUnder SecondIs 14
seconds = (refl, (refl, (refl, (refl, (refl, (refl, (refl, (refl, (refl, (refl, (refl, (refl, (refl, (refl, tt))))))))))))))

abbrev ThirdIs : ℕ → Type 0
ThirdIs c = (line_of (row_at (29 + c))).opcode ≡ 15 ∷ (0 ∷ (c ∷ []))

thirds : AllUnder ThirdIs 2
thirds = (refl, (refl, tt))

abbrev LastIs : ℕ → Type 0
LastIs k = (line_of (row_at (31 + k))).opcode ≡ 15 ∷ (0 ∷ ((6 + k) ∷ []))

lasts : AllUnder LastIs 4
lasts = (refl, (refl, (refl, (refl, tt))))

first_opcode : (a : ℕ) → a < 15 → (line_of (row_at a)).opcode ≡ a ∷ []
first_opcode a h = under_at FirstIs 15 a firsts h

second_opcode : (b : ℕ) → 0 < b → b < 15 → (line_of (row_at (14 + b))).opcode ≡ 15 ∷ (b ∷ [])
second_opcode b h l =
    let e : 15 + (b - 1) ≡ 14 + b = omega arith in
    let f : 1 + (b - 1) ≡ b = omega arith in
    ap (λ n. (line_of (row_at n)).opcode) (sym e) ∙ under_at SecondIs 14 (b - 1) seconds (omega arith) ∙ ap (λ n. 15 ∷ (n ∷ [])) f

third_opcode : (c : ℕ) → c < 2 → (line_of (row_at (29 + c))).opcode ≡ 15 ∷ (0 ∷ (c ∷ []))
third_opcode c h = under_at ThirdIs 2 c thirds h

last_opcode : (c : ℕ) → 6 ≤ c → c < 10 → (line_of (row_at (25 + c))).opcode ≡ 15 ∷ (0 ∷ (c ∷ []))
last_opcode c h l =
    let e : 31 + (c - 6) ≡ 25 + c = omega arith in
    let f : 6 + (c - 6) ≡ c = omega arith in
    ap (λ n. (line_of (row_at n)).opcode) (sym e) ∙ under_at LastIs 4 (c - 6) lasts (omega arith) ∙ ap (λ n. 15 ∷ (0 ∷ (n ∷ []))) f

-- an opcode begins its row, whatever follows
pub opens : (row : Row) (w : List ℕ) → opening_of ((line_of row).opcode ++ w) ≡ Opened row
unfolding opening_of
opens row w = each (λ row. opening_of ((line_of row).opcode ++ w) ≡ Opened row) all row where
  all : AllOf (λ row. opening_of ((line_of row).opcode ++ w) ≡ Opened row) rows
  all = (refl, (refl, (refl, (refl, (refl, (refl, (refl, (refl, (refl, (refl, (refl, (refl, (refl, (refl, (refl, (refl, (refl, (refl, (refl, (refl, (refl, (refl, (refl, (refl, (refl, (refl, (refl, (refl, (refl, (refl, (refl, (refl, (refl, (refl, (refl, tt)))))))))))))))))))))))))))))))))))

-- and after it only a size nibble is a fault
pub row_why : (row : Row) (w : List ℕ) → why ((line_of row).opcode ++ w) ≡ StampSize
unfolding opening_of
row_why row w = each (λ row. why ((line_of row).opcode ++ w) ≡ StampSize) all row where
  all : AllOf (λ row. why ((line_of row).opcode ++ w) ≡ StampSize) rows
  all = (refl, (refl, (refl, (refl, (refl, (refl, (refl, (refl, (refl, (refl, (refl, (refl, (refl, (refl, (refl, (refl, (refl, (refl, (refl, (refl, (refl, (refl, (refl, (refl, (refl, (refl, (refl, (refl, (refl, (refl, (refl, (refl, (refl, (refl, (refl, tt)))))))))))))))))))))))))))))))))))

-- what the rule takes nibbles for: a row whose opcode they are, an opcode that goes on, or none
abbrev pub IsRow : Opening → List ℕ → Type 0
IsRow o r = (row : Row) × (o ≡ Opened row) × ((line_of row).opcode ≡ r)

pub first_cases : (a : ℕ) → IsRow (first_opening a) (a ∷ []) ⊎ ((a ≡ 15) × (first_opening a ≡ More)) ⊎ ((16 ≤ a) × (first_opening a ≡ Refused))
first_cases a = elim (tests a) [
  | inl m ↦ inl (row_at a, m.1, first_opcode a m.0)
  | inr m ↦ inr m
] where
  tests : (a : ℕ) → ((a < 15) × (first_opening a ≡ Opened (row_at a))) ⊎ ((a ≡ 15) × (first_opening a ≡ More)) ⊎ ((16 ≤ a) × (first_opening a ≡ Refused))
  tests a = grind (arith, nat_tests)

pub second_cases : (b : ℕ) → IsRow (second_opening b) (15 ∷ (b ∷ [])) ⊎ ((b ≡ 0) × (second_opening b ≡ More)) ⊎ ((15 ≤ b) × (second_opening b ≡ Refused))
second_cases b = elim (tests b) [
  | inl m ↦ inl (row_at (14 + b), m.2, second_opcode b m.0 m.1)
  | inr m ↦ inr m
] where
  tests : (b : ℕ) → ((0 < b) × (b < 15) × (second_opening b ≡ Opened (row_at (14 + b)))) ⊎ ((b ≡ 0) × (second_opening b ≡ More)) ⊎ ((15 ≤ b) × (second_opening b ≡ Refused))
  tests b = grind (arith, nat_tests)

abbrev IsNoThird : ℕ → Type 0
IsNoThird c = ((2 ≤ c) × (c < 6)) ⊎ (10 ≤ c)

pub third_cases : (c : ℕ) → IsRow (third_opening c) (15 ∷ (0 ∷ (c ∷ []))) ⊎ (IsNoThird c × (third_opening c ≡ Refused))
third_cases c = elim (tests c) [
  | inl m ↦ inl (row_at (29 + c), m.1, third_opcode c m.0)
  | inr m ↦ elim m [
    | inl n ↦ inl (row_at (25 + c), n.2, last_opcode c n.0 n.1)
    | inr n ↦ elim n [ inl o ↦ inr (inl (o.0, o.1), o.2) | inr o ↦ inr (inr o.0, o.1) ]
  ]
] where
  tests : (c : ℕ) → ((c < 2) × (third_opening c ≡ Opened (row_at (29 + c)))) ⊎ ((6 ≤ c) × (c < 10) × (third_opening c ≡ Opened (row_at (25 + c))))
      ⊎ ((2 ≤ c) × (c < 6) × (third_opening c ≡ Refused)) ⊎ ((10 ≤ c) × (third_opening c ≡ Refused))
  tests c = grind (arith, nat_tests)

-- what `opcode_of` answers to nibbles that begin with an opcode
head_is : (n : ℕ) (opcode r : List ℕ) → n < 35 → (line_of (row_at n)).opcode ≡ opcode → head_of (opening_of (opcode ++ r)) ≡ HeadWhole n
head_is n opcode r h e = ap (λ l. head_of (opening_of (l ++ r))) (sym e) ∙ ap head_of (opens (row_at n) r) ∙ ap HeadWhole (number_is n h)

pub first_head : (a : ℕ) (r : List ℕ) → a < 15 → head_of (opening_of (a ∷ r)) ≡ HeadWhole a
first_head a r h = head_is a (a ∷ []) r (omega arith) (first_opcode a h)

pub second_head : (b : ℕ) (r : List ℕ) → 0 < b → b < 15 → head_of (opening_of (15 ∷ (b ∷ r))) ≡ HeadWhole (14 + b)
second_head b r h l = head_is (14 + b) (15 ∷ (b ∷ [])) r (omega arith) (second_opcode b h l)

pub third_head : (c : ℕ) → c < 2 → head_of (opening_of (15 ∷ (0 ∷ (c ∷ [])))) ≡ HeadWhole (29 + c)
third_head c h = head_is (29 + c) (15 ∷ (0 ∷ (c ∷ []))) [] (omega arith) (third_opcode c h)

pub last_head : (c : ℕ) → 6 ≤ c → c < 10 → head_of (opening_of (15 ∷ (0 ∷ (c ∷ [])))) ≡ HeadWhole (25 + c)
last_head c h l = head_is (25 + c) (15 ∷ (0 ∷ (c ∷ []))) [] (omega arith) (last_opcode c h l)

-- and to nibbles that begin only with F
pub heads_more : (head_of (opening_of (15 ∷ [])) ≡ HeadMore) × (head_of (opening_of (15 ∷ (0 ∷ []))) ≡ HeadMore)
    × (head_of (opening_of (15 ∷ (15 ∷ []))) ≡ HeadMore) × (head_of (opening_of (15 ∷ (15 ∷ (15 ∷ [])))) ≡ HeadMore)
unfolding opening_of
heads_more = (refl, refl, refl, refl)

pub run_refused : (c : ℕ) → (c ≡ 15 → ⊥) → head_of (opening_of (15 ∷ (15 ∷ (c ∷ [])))) ≡ HeadRefused
unfolding opening_of
run_refused c h = ap (λ t. head_of (opening_by None (t && true))) (is_not c h) where
  is_not : (c : ℕ) → (c ≡ 15 → ⊥) → (c == 15) ≡ false
  is_not c h = grind (arith, nat_tests)

-- nibbles that no opcode is, and no opcode goes on with
no_row : (r : List ℕ) → row_of r ≡ None → opening_fault (opening_of r) ≡ Unsupported
unfolding opening_of
no_row r e = ap (λ o. opening_fault (opening_by o (is_front r))) e ∙ by (is_front r) where
  by : (t : Bool) → opening_fault (opening_by None t) ≡ Unsupported
  by true = refl
  by false = refl

first_none : (a : ℕ) → 16 ≤ a → row_of (a ∷ []) ≡ None
first_none a h = grind (arith, nat_tests)

second_none : (b : ℕ) → 15 ≤ b → row_of (15 ∷ (b ∷ [])) ≡ None
second_none b h = grind (arith, nat_tests)

third_none : (c : ℕ) → IsNoThird c → row_of (15 ∷ (0 ∷ (c ∷ []))) ≡ None
third_none c h = grind (arith, nat_tests)

third_front : (c : ℕ) → IsNoThird c → is_front (15 ∷ (0 ∷ (c ∷ []))) ≡ false
third_front c h = grind (arith, nat_tests)

no_third : (c : ℕ) → IsNoThird c → opening_of (15 ∷ (0 ∷ (c ∷ []))) ≡ Refused
unfolding opening_of
no_third c h = ap (λ o. opening_by o (is_front (15 ∷ (0 ∷ (c ∷ []))))) (third_none c h) ∙ ap (opening_by None) (third_front c h)

pub third_refused : (c : ℕ) → IsNoThird c → head_of (opening_of (15 ∷ (0 ∷ (c ∷ [])))) ≡ HeadRefused
third_refused c h = ap head_of (no_third c h)

-- what the rule takes nibbles under 16 for is what they begin by the table
row_opening : (o : Opening) (r : List ℕ) → IsRow o r → opening_of r ≡ o
row_opening o r (row, e, f) = ap opening_of (sym (append-nil r) ∙ ap (λ l. l ++ []) (sym f)) ∙ opens row [] ∙ sym e

one_f : opening_of (15 ∷ []) ≡ More
unfolding opening_of
one_f = refl

f_and_0 : opening_of (15 ∷ (0 ∷ [])) ≡ More
unfolding opening_of
f_and_0 = refl

pub first_is : (a : ℕ) → a < 16 → opening_of (a ∷ []) ≡ first_opening a
first_is a h = elim (first_cases a) [
  | inl m ↦ row_opening (first_opening a) (a ∷ []) m
  | inr m ↦ elim m [
    | inl n ↦ ap (λ z. opening_of (z ∷ [])) n.0 ∙ one_f ∙ sym n.1
    | inr n ↦ absurd (omega (arith, n.0))
  ]
]

pub second_is : (b : ℕ) → b < 15 → opening_of (15 ∷ (b ∷ [])) ≡ second_opening b
second_is b h = elim (second_cases b) [
  | inl m ↦ row_opening (second_opening b) (15 ∷ (b ∷ [])) m
  | inr m ↦ elim m [
    | inl n ↦ ap (λ z. opening_of (15 ∷ (z ∷ []))) n.0 ∙ f_and_0 ∙ sym n.1
    | inr n ↦ absurd (omega (arith, n.0))
  ]
]

pub third_is : (c : ℕ) → opening_of (15 ∷ (0 ∷ (c ∷ []))) ≡ third_opening c
third_is c = elim (third_cases c) [
  | inl m ↦ row_opening (third_opening c) (15 ∷ (0 ∷ (c ∷ []))) m
  | inr m ↦ no_third c m.0 ∙ sym m.1
]

-- the row whose number `opcode_of` answers
head_row : (n : ℕ) (o : Opening) → HeadWhole n ≡ head_of o → (n < 35) × (o ≡ Opened (row_at n))
head_row n (Opened row) e = (let k : n ≡ (line_of row).number = cc in let w = numbered row in (omega (arith, k, w.0), ap Opened (sym w.1 ∙ ap row_at (sym k))))
head_row n More e = cc
head_row n Refused e = cc

pub third_whole : (c n : ℕ) → HeadWhole n ≡ head_of (opening_of (15 ∷ (0 ∷ (c ∷ [])))) →
    (n < 35) × (third_opening c ≡ Opened (row_at n))
third_whole c n e = head_row n (third_opening c) (e ∙ ap head_of (third_is c))

pub first_fault : (a : ℕ) → first_opening a ≡ Refused → opening_fault (opening_of (a ∷ [])) ≡ Unsupported
first_fault a e = elim (first_cases a) [
  | inl m ↦ (let k = sym m.1 ∙ e in cc)
  | inr m ↦ elim m [
    | inl n ↦ (let k = sym n.1 ∙ e in cc)
    | inr n ↦ no_row (a ∷ []) (first_none a n.0)
  ]
]

pub second_fault : (b : ℕ) → second_opening b ≡ Refused → opening_fault (opening_of (15 ∷ (b ∷ []))) ≡ Unsupported
second_fault b e = elim (second_cases b) [
  | inl m ↦ (let k = sym m.1 ∙ e in cc)
  | inr m ↦ elim m [
    | inl n ↦ (let k = sym n.1 ∙ e in cc)
    | inr n ↦ no_row (15 ∷ (b ∷ [])) (second_none b n.0)
  ]
]

pub third_fault : (c : ℕ) → third_opening c ≡ Refused → opening_fault (opening_of (15 ∷ (0 ∷ (c ∷ [])))) ≡ Unsupported
third_fault c e = elim (third_cases c) [
  | inl m ↦ (let k = sym m.1 ∙ e in cc)
  | inr m ↦ no_row (15 ∷ (0 ∷ (c ∷ []))) (third_none c m.0)
]
