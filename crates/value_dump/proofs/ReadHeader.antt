-- What the header of a value dump says: the code of each name, and the value of each signal before the first packet.
use Rattle.std.proofs.Common.{◌≡◌, ℕ, zero, suc, ◌/◌, ◌<◌, List, [], ◌∷◌, ◌++◌, get_or, take, refl, sym, ◌∙◌, ap}
use Rattle.std.proofs.Common.{arith, subst, append_assoc, Bool, true, false, cond, Option, None, Some, inl, inr}
use Rattle.std.specs.Prelude.{◌==◌, ◌&&◌, ◌||◌, ◌%◌, codes, decimal}
use Rattle.std.specs.Fmt.{digit_glyph, digits, digits_onto}
use Rattle.std.specs.List.{list_any}
use Rattle.std.proofs.lemmas.Bool.{cases_eq}
use Rattle.std.proofs.lemmas.Bool.Decides.{nat_tests}
use Rattle.value_dump.specs.Header.{comment, declarations, header}
use Rattle.value_dump.specs.Lines.{binary, code_of}
use Rattle.value_dump.specs.Signals.{signal, signals, value_after}
use Rattle.value_dump.specs.Reading.{Said, Nothing, code_in, said_in, value_in}
use Rattle.value_dump.proofs.ReadLines.{Says, any_more, says_closed, says_line, says_more}

-- the declarations, whose last byte is a line feed
abbrev pub said_first : List Said
said_first = said_in (take 1324 declarations)

closed : take 1324 declarations ++ 10 ∷ [] ≡ declarations
unfolding declarations digits binary
closed = refl

says_declarations : Says declarations said_first
says_declarations = subst (λ (l : List ℕ). Says l (said_in (take 1324 declarations))) closed
    (says_closed (take 1324 declarations))

-- a number in decimal has no line feed
no_glyph : (d : ℕ) → d < 10 → (digit_glyph false d == 10) ≡ false
no_glyph d h = grind (arith, nat_tests)

no_feed_onto : (k n : ℕ) (acc : List ℕ) → list_any (λ b. b == 10) acc ≡ false →
    list_any (λ b. b == 10) (digits_onto k 10 false n acc) ≡ false
no_feed_onto zero n acc h = h
no_feed_onto (suc k) n acc h =
    let more : list_any (λ b. b == 10) (digit_glyph false (n % 10) ∷ acc) ≡ false =
    ap (λ (t : Bool). t || list_any (λ b. b == 10) acc) (no_glyph (n % 10) (omega arith)) ∙ h in
    by (n / 10 == 0) more (no_feed_onto k (n / 10) (digit_glyph false (n % 10) ∷ acc) more) where
      by : (t : Bool) → list_any (λ b. b == 10) (digit_glyph false (n % 10) ∷ acc) ≡ false →
          list_any (λ b. b == 10) (digits_onto k 10 false (n / 10) (digit_glyph false (n % 10) ∷ acc)) ≡ false →
          list_any (λ b. b == 10) (cond t (digit_glyph false (n % 10) ∷ acc)
          (digits_onto k 10 false (n / 10) (digit_glyph false (n % 10) ∷ acc))) ≡ false
      by true a b = a
      by false a b = b

no_feed : (n : ℕ) (rest : List ℕ) → list_any (λ b. b == 10) rest ≡ false →
    list_any (λ b. b == 10) (decimal n ++ rest) ≡ false
unfolding digits
no_feed n rest h = any_more (λ b. b == 10) (digits_onto 64 10 false n []) rest (no_feed_onto 64 n [] refl) h

says_comment : (hz : Option ℕ) → Says (comment hz) (Nothing ∷ [])
says_comment None = says_closed (codes "$comment 1 ns stands for one tick of the local timestamps $end")
says_comment (Some hz) =
    subst (λ (l : List ℕ). Says (codes "$comment local timestamps by a clock of " ++ l) (Nothing ∷ []))
    (append_assoc (decimal hz) (codes " Hz $end") (10 ∷ []))
    (says_line (codes "$comment local timestamps by a clock of " ++ (decimal hz ++ codes " Hz $end"))
    (no_feed hz (codes " Hz $end") refl))

abbrev pub said_by_header : List Said
said_by_header = Nothing ∷ Nothing ∷ said_first

pub says_header : (hz : Option ℕ) → Says (header hz) said_by_header
says_header hz =
    says_more (codes "$timescale 1 ns $end\n") (comment hz ++ declarations) (Nothing ∷ []) (Nothing ∷ said_first)
    (says_closed (codes "$timescale 1 ns $end"))
    (says_more (comment hz) declarations (Nothing ∷ []) said_first (says_comment hz) says_declarations)

-- All names and values, in a table that is computed.
abbrev pub name_of : ℕ → List ℕ
name_of number = (get_or signals number (signal [] 0)).name

is_code : Option (List ℕ) → ℕ → Bool
is_code None code = false
is_code (Some []) code = false
is_code (Some (c ∷ [])) code = c == code
is_code (Some (c ∷ d ∷ more)) code = false

is_same : Option ℕ → Option ℕ → Bool
is_same None None = true
is_same None (Some b) = false
is_same (Some a) None = false
is_same (Some a) (Some b) = a == b

is_right : List Said → ℕ → Bool
is_right said n =
    is_code (code_in (name_of n) None said) (code_of n)
    && is_same (value_in (code_of n ∷ []) None said) (value_after [] n)

all_right : ℕ → List Said → Bool
all_right zero said = true
all_right (suc n) said = is_right said n && all_right n said

table : all_right 40 (said_in (take 1324 declarations)) ≡ true
unfolding declarations digits binary is_code is_same is_right all_right
table = refl

both : (a b : Bool) → (a && b) ≡ true → (a ≡ true) × (b ≡ true)
both true b e = (refl, e)
both false b e = cc

in_table : (count n : ℕ) (said : List Said) → n < count → all_right count said ≡ true → is_right said n ≡ true
unfolding all_right
in_table zero n said h e = absurd (omega (arith, h))
in_table (suc count) n said h e =
    let parts = both (is_right said count) (all_right count said) e in
    elim (cases_eq n count) [
      | inl k ↦ subst (λ (m : ℕ). is_right said m ≡ true) (sym k) parts.0
      | inr d ↦ in_table count n said (omega (arith, h, d)) parts.1
    ]

code_so : (o : Option (List ℕ)) (code : ℕ) → is_code o code ≡ true → o ≡ Some (code ∷ [])
unfolding is_code
code_so None code e = cc
code_so (Some []) code e = cc
code_so (Some (c ∷ [])) code e =
    ap (λ (n : ℕ). Some (n ∷ [])) (let k : c ≡ code = grind (arith, nat_tests, e) in k)
code_so (Some (c ∷ d ∷ more)) code e = cc

same_so : (a b : Option ℕ) → is_same a b ≡ true → a ≡ b
unfolding is_same
same_so None None e = refl
same_so None (Some b) e = cc
same_so (Some a) None e = cc
same_so (Some a) (Some b) e = ap (λ (n : ℕ). Some n) (let k : a ≡ b = grind (arith, nat_tests, e) in k)

pub header_read : (number : ℕ) → number < 40 →
    (code_in (name_of number) None said_by_header ≡ Some (code_of number ∷ []))
    × (value_in (code_of number ∷ []) None said_by_header ≡ value_after [] number)
unfolding is_right
header_read number h =
    let said = said_first in
    let parts =
    both (is_code (code_in (name_of number) None said_first) (code_of number))
    (is_same (value_in (code_of number ∷ []) None said_first) (value_after [] number))
    (in_table 40 number said_first h table) in (
      code_so (code_in (name_of number) None said_first) (code_of number) parts.0,
      same_so (value_in (code_of number ∷ []) None said_first) (value_after [] number) parts.1,
    )
