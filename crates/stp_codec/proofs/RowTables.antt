-- The table by opcodes' nibbles holds what the table of opcodes says.
use Rattle.std.proofs.Common.{◌≡◌, ℕ, ◌+◌, ◌*◌, ◌%◌, ◌⊎◌, ◌<◌, ◌≤◌, get_or, Bool, true, false, cond, refl, sym, ◌∙◌}
use Rattle.std.proofs.Common.{ap, arith}
use Rattle.std.specs.Prelude.{◌==◌, ◌&&◌, ◌||◌, nat_le, nat_lt}
use Rattle.std.proofs.lemmas.Bool.Decides.{nat_tests}
use Rattle.std.proofs.lemmas.Bool.{eqb-true, leb-true}
use Rattle.stp_codec.specs.Names.{Next, Go, End, Fail, StpPacket, Partial, row_at, Order, begin, is_sound}
use Rattle.stp_codec.specs.Wholes.{left_by}
use Rattle.stp_grammar.proofs.Tables.{under, below}
use Rattle.stp_codec.specs.declared.flat.TheConstants.{OPCODES}

-- a packet that goes on
abbrev pub goes : Next Partial StpPacket → Bool
goes (Go t) = true
goes (End packet) = false
goes (Fail reason) = false

second : (a b : Bool) → a ≡ false → (a || b) ≡ true → b ≡ true
second a b e f = sym (ap (λ (x : Bool). x || b) e) ∙ f

-- of the opcodes of one nibble only NULL's is a whole packet
pub row_goes : (n : ℕ) → 0 < n → n < 15 → goes (begin (row_at n)) ≡ true
unfolding under
row_goes n h l =
    second (n == 0) (goes (begin (row_at n))) (grind (arith, nat_tests))
    (below (λ k. (k == 0) || goes (begin (row_at k))) 15 n l refl)

-- the table by an opcode's last nibble: after none, after F, and after F and 0
number_few : (n : ℕ) → n < 48 → get_or OPCODES.now n 0 ≤ 35
unfolding under
number_few n l = leb-true _ _ (below (λ k. nat_le (get_or OPCODES.now k 0) 35) 48 n l refl)

pub one_at_most : (s : Bool) → cond s 1 0 ≤ 1
one_at_most true = omega arith
one_at_most false = omega arith

pub number_most : (s t : Bool) (two three x : ℕ) → two ≡ cond s 1 0 → three ≡ cond t 1 0 → get_or OPCODES.now (16 * (two + three) + x % 16) 0 ≤ 35
number_most s t two three x e f =
    let a = one_at_most s in
    let b = one_at_most t in
    number_few (16 * (two + three) + x % 16) (omega (arith, a, b, e, f))

pub number_of_one : (a : ℕ) → a < 15 → get_or OPCODES.now a 0 ≡ a
unfolding under
number_of_one a l = eqb-true _ _ (below (λ k. get_or OPCODES.now k 0 == k) 15 a l refl)

says_two : ℕ → ℕ → Bool
says_two b n = (b == 0) || ((n == 35) || (nat_lt b 15 && (n == 14 + b)))

two_says : (b n : ℕ) → says_two b n ≡ true → 0 < b → n < 35 → (b < 15) × (n ≡ 14 + b)
unfolding says_two
two_says b n e h l = grind (arith, nat_tests)

pub number_of_two : (b : ℕ) → 0 < b → b < 16 → get_or OPCODES.now (16 + b) 0 < 35 → (b < 15) × (get_or OPCODES.now (16 + b) 0 ≡ 14 + b)
unfolding under says_two
number_of_two b h l m = two_says b _ (below (λ k. says_two k (get_or OPCODES.now (16 + k) 0)) 16 b l refl) h m

says_three : ℕ → ℕ → Bool
says_three c n = (n == 35) || ((nat_lt c 2 && (n == 29 + c)) || ((nat_le 6 c && nat_lt c 10) && (n == 25 + c)))

three_says : (c n : ℕ) → says_three c n ≡ true → n < 35 → ((c < 2) × (n ≡ 29 + c)) ⊎ ((6 ≤ c) × ((c < 10) × (n ≡ 25 + c)))
unfolding says_three
three_says c n e l = grind (arith, nat_tests)

pub number_of_three : (c : ℕ) → c < 16 → get_or OPCODES.now (32 + c) 0 < 35 →
    ((c < 2) × (get_or OPCODES.now (32 + c) 0 ≡ 29 + c)) ⊎ ((6 ≤ c) × ((c < 10) × (get_or OPCODES.now (32 + c) 0 ≡ 25 + c)))
unfolding under says_three
number_of_three c l m = three_says c _ (below (λ k. says_three k (get_or OPCODES.now (32 + k) 0)) 16 c l refl) m
