-- A state counts the nibbles of the unfinished packet.
use Rattle.std.proofs.Common.{◌≡◌, ℕ, ◌+◌, ◌≤◌, List, [], ◌∷◌, length, Bool, true, false, cond, refl, sym, ◌∙◌, ap, subst, inl, inr, arith}
use Rattle.std.specs.Prelude.{nat_lt, nat_le, ◌==◌, ◌&&◌}
use Rattle.std.proofs.lemmas.Bool.{eqb-true}
use Rattle.stp_grammar.specs.Names.{BadAsync, StampSize, Next, Go, End, Fail, Placed, Walked, Within, after, walk}
use Rattle.stp_grammar.specs.Names.{nibble_count}
use Rattle.stp_grammar.specs.declared.packet.Order.{Order}
use Rattle.stp_grammar.specs.declared.packet.Row.{Row}
use Rattle.stp_grammar.specs.declared.packet.StpPacket.{StpPacket}
use Rattle.stp_grammar.specs.declared.packet.StpPacket.TheVariants.{Async, Plain, Stamped}
use Rattle.stp_grammar.specs.declared.partial.Partial.{Partial}
use Rattle.stp_grammar.specs.declared.partial.Partial.TheVariants.{Start, Second, Third, Run, Payload, Size, Word}
use Rattle.stp_grammar.specs.Opcodes.{line_of, Opening, More, Refused}
use Rattle.stp_grammar.specs.Rule.{first_opening, second_opening, third_opening, rule, number_with, begin, opened, after_payload, count_of, held_after}
use Rattle.stp_grammar.proofs.Openings.{IsRow, first_cases, second_cases, third_cases}

-- a step that goes on counts one more
abbrev CountsOn : ℕ → Next Partial StpPacket → Type 0
CountsOn n (Go t) = count_of t ≡ n + 1
CountsOn n (End v) = Unit {0}
CountsOn n (Fail e) = Unit {0}

choose : (n : ℕ) (t : Bool) (x y : Next Partial StpPacket) → (t ≡ true → CountsOn n x) → (t ≡ false → CountsOn n y) → CountsOn n (cond t x y)
choose n true x y h k = h refl
choose n false x y h k = k refl

paid : (row : Row) (payload n : ℕ) → n + 1 ≡ length (line_of row).opcode + (line_of row).payload → CountsOn n (after_payload row payload)
paid row payload n e = choose n (line_of row).stamped (Go (Size row payload)) (End (Plain row payload)) (λ t. sym e) (λ t. tt)

begun : (row : Row) (n : ℕ) → n + 1 ≡ length (line_of row).opcode → CountsOn n (begin row)
begun row n e = choose n ((line_of row).payload == 0) (after_payload row 0) (Go (Payload row 0 0))
    (λ t. paid row 0 n (let k = eqb-true (line_of row).payload 0 t in omega (arith, k, e))) (λ t. omega (arith, e))

by_row : (o : Opening) (more : Partial) (r : List ℕ) (n : ℕ) → n + 1 ≡ length r → IsRow o r → CountsOn n (opened o more)
by_row o more r n e (row, f, g) = subst (λ (z : Opening). CountsOn n (opened z more)) (sym f) (begun row n (e ∙ ap length (sym g)))

by_more : (o : Opening) (more : Partial) (n : ℕ) → o ≡ More → count_of more ≡ n + 1 → CountsOn n (opened o more)
by_more o more n e k = subst (λ (z : Opening). CountsOn n (opened z more)) (sym e) k

by_none : (o : Opening) (more : Partial) (n : ℕ) → o ≡ Refused → CountsOn n (opened o more)
by_none o more n e = subst (λ (z : Opening). CountsOn n (opened z more)) (sym e) tt

all_count : (order : Order) (s : Partial) (b : ℕ) → CountsOn (count_of s) (rule order s b)
all_count order Start b = elim (first_cases b) [
  | inl m ↦ by_row (first_opening b) Second (b ∷ []) 0 refl m
  | inr m ↦ elim m [ inl n ↦ by_more (first_opening b) Second 0 n.1 refl | inr n ↦ by_none (first_opening b) Second 0 n.1 ]
]
all_count order Second b = choose 1 (b == 15) (Go (Run 2)) (opened (second_opening b) Third) (λ t. refl) (λ t. elim (second_cases b) [
  | inl m ↦ by_row (second_opening b) Third (15 ∷ (b ∷ [])) 1 refl m
  | inr m ↦ elim m [
    | inl n ↦ by_more (second_opening b) Third 1 n.1 refl
    | inr n ↦ by_none (second_opening b) Third 1 n.1
  ]
])
all_count order Third b = elim (third_cases b) [
  | inl m ↦ by_row (third_opening b) Third (15 ∷ (0 ∷ (b ∷ []))) 2 refl m
  | inr m ↦ by_none (third_opening b) Third 2 m.1
]
all_count order (Run count) b =
    choose count (b == 15) (Go (Run (count + 1))) (cond (b == 0 && nat_le 21 count) (End Async) (Fail BadAsync)) (λ t. refl)
    (λ t. choose count (b == 0 && nat_le 21 count) (End Async) (Fail BadAsync) (λ u. tt) (λ u. tt))
all_count order (Payload row count value) b =
    let n = length (line_of row).opcode + count in
    choose n (count + 1 == (line_of row).payload) (after_payload row (number_with order count value b)) (Go (Payload row (count + 1) (number_with order count value b)))
    (λ t. paid row (number_with order count value b) n (let k = eqb-true (count + 1) (line_of row).payload t in omega (arith, k))) (λ t. omega arith)
all_count order (Size row payload) b =
    let n = length (line_of row).opcode + (line_of row).payload in
    choose n (nat_lt b 15) (cond (b == 0) (End (Stamped row payload 0 0)) (Go (Word row payload b 0 0))) (Fail StampSize)
    (λ t. choose n (b == 0) (End (Stamped row payload 0 0)) (Go (Word row payload b 0 0)) (λ u. tt) (λ u. omega arith)) (λ t. tt)
all_count order (Word row payload size count word) b =
    let n = length (line_of row).opcode + (line_of row).payload + 1 + count in
    choose n (count + 1 == nibble_count size) (End (Stamped row payload size (number_with order count word b))) (Go (Word row payload size (count + 1) (number_with order count word b)))
    (λ t. tt) (λ t. omega arith)

of_step : (n : ℕ) (x : Next Partial StpPacket) (t : Partial) → x ≡ Go t → CountsOn n x → count_of t ≡ n + 1
of_step n (Go s) t e h = let k : s ≡ t = cc in ap count_of (sym k) ∙ h
of_step n (End v) t e h = cc
of_step n (Fail f) t e h = cc

pub counts : (order : Order) (s t : Partial) (b : ℕ) → rule order s b ≡ Go t → count_of t ≡ count_of s + 1
counts order s t b e = of_step (count_of s) (rule order s b) t e (all_count order s b)

pub held_most : (order : Order) (s : Partial) (b : ℕ) → held_after (rule order s b) ≤ count_of s + 1
held_most order s b = of_next (count_of s) (rule order s b) (all_count order s b) where
  of_next : (n : ℕ) (x : Next Partial StpPacket) → CountsOn n x → held_after x ≤ n + 1
  of_next n (Go t) h = omega (arith, h)
  of_next n (End v) h = omega arith
  of_next n (Fail e) h = omega arith

pub held_by : (order : Order) (s t : Partial) (b : ℕ) (x : Next Partial StpPacket) → s ≡ t → x ≡ rule order t b → held_after x ≤ count_of s + 1
held_by order s t b x e f = subst (λ z. held_after x ≤ count_of z + 1) (sym e) (subst (λ z. held_after z ≤ count_of t + 1) (sym f) (held_most order t b))

pub counts_placed : (order : Order) (s t : Partial) (b : Placed) → rule order s b.unit ≡ Go t → count_of t ≡ count_of s + 1
counts_placed order s t b e = counts order s t b.unit e

-- nibbles that leave a state are counted in it
walked_on : {S V : Type 0} (x : Next S V) (more : S → Walked S V) (r : List ℕ) (t : S) → after x more r ≡ Within t → (s : S) × (x ≡ Go s) × (more s ≡ Within t)
walked_on (Go s) more r t e = (s, refl, e)
walked_on (End v) more [] t e = cc
walked_on (End v) more (b ∷ r) t e = cc
walked_on (Fail f) more r t e = cc

pub counted_nibbles : (order : Order) (s t : Partial) (r : List ℕ) → walk (rule order) s r ≡ Within t → count_of t ≡ count_of s + length r
counted_nibbles order s t [] e = (let k : s ≡ t = cc in let n : count_of s ≡ count_of s + 0 = omega arith in ap count_of (sym k) ∙ n)
counted_nibbles order s t (b ∷ r) e =
    let m = walked_on (rule order s b) (λ u. walk (rule order) u r) r t e in
    let more = counted_nibbles order m.0 t r m.2 in
    let one = counts order s m.0 b m.1 in omega (arith, more, one)
