-- But for a run of nibbles F, a state holds few nibbles.
use Rattle.std.proofs.Common.{◌≡◌, ℕ, zero, suc, ◌+◌, ◌≤◌, ◌⊎◌, inl, inr, List, length, replicate, All, true, refl, sym, ◌∙◌, subst, arith}
use Rattle.std.specs.Prelude.{nat_le}
use Rattle.std.proofs.lemmas.List.Elements.{All-nil, All-cons}
use Rattle.std.proofs.lemmas.Bool.Decides.{nat_tests}
use Rattle.trace_clock.proofs.LastWords.{few_nibbles}
use Rattle.stp_grammar.specs.Names.{Within, walk}
use Rattle.stp_grammar.specs.declared.packet.Order.{Order}
use Rattle.stp_grammar.specs.declared.packet.Row.{Row}
use Rattle.stp_grammar.specs.declared.partial.Partial.{Partial}
use Rattle.stp_grammar.specs.declared.partial.Partial.TheVariants.{Start, Second, Third, Run, Payload, Size, Word}
use Rattle.stp_grammar.specs.Opcodes.{line_of}
use Rattle.stp_grammar.specs.Rule.{rule, count_of}
use Rattle.stp_grammar.proofs.EachRow.{each_test}
use Rattle.stp_grammar.proofs.Counting.{counted_nibbles}
use Rattle.stp_grammar.proofs.Reached.{Belongs, belongs}

line_few : (row : Row) → length (line_of row).opcode + (line_of row).payload ≤ 18
line_few row = at_most (length (line_of row).opcode + (line_of row).payload) (each_test (λ row. nat_le (length (line_of row).opcode + (line_of row).payload) 18) refl row) where
  at_most : (n : ℕ) → nat_le n 18 ≡ true → n ≤ 18
  at_most n e = grind (arith, nat_tests)

all_same : (n b : ℕ) → All (λ c. c ≡ b) (replicate n b)
all_same zero b = All-nil (λ c. c ≡ b)
all_same (suc n) b = All-cons (λ c. c ≡ b) b (replicate n b) refl (all_same n b)

abbrev Few : ℕ → List ℕ → Type 0
Few count r = (count ≤ 34) ⊎ All (λ b. b ≡ 15) r

few : (order : Order) (s : Partial) (r : List ℕ) → Belongs order s r → Few (count_of s) r
few order Start r h = inl (omega arith)
few order Second r h = inl (omega arith)
few order Third r h = inl (omega arith)
few order (Run n) r h = inr (subst (λ l. All (λ b. b ≡ 15) l) (sym h.1) (all_same n 15))
few order (Payload row n v) r h = inl (let k = line_few row in let l = h.0 in omega arith)
few order (Size row p) r h = inl (let k = line_few row in omega arith)
few order (Word row p size n v) r h = inl (let k = line_few row in let l = few_nibbles size h.1 in let m = h.2 in omega arith)

pub holds_few : (order : Order) (s : Partial) (r : List ℕ) → walk (rule order) Start r ≡ Within s → Few (length r) r
holds_few order s r e = subst (λ n. Few n r) (counted_nibbles order Start s r e ∙ nothing (length r)) (few order s r (belongs order s r e)) where
  nothing : (n : ℕ) → 0 + n ≡ n
  nothing n = omega arith
