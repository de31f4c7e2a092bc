-- A packet's first nibble: it ends no packet but a NULL, and is no fault.
use Rattle.std.proofs.Common.{◌≡◌, ℕ, ◌<◌, [], ◌∷◌, length, Bool, true, not, cond, ◌==◌, ◌&&◌, refl, sym, ◌∙◌, ap, inl, inr, arith}
use Rattle.stp_grammar.specs.Names.{Reason, End, Fail}
use Rattle.stp_grammar.specs.declared.packet.Order.{Order}
use Rattle.stp_grammar.specs.declared.packet.Row.{Row}
use Rattle.stp_grammar.specs.declared.packet.Row.TheVariants.{Null}
use Rattle.stp_grammar.specs.declared.packet.StpPacket.{StpPacket}
use Rattle.stp_grammar.specs.declared.packet.StpPacket.TheVariants.{Plain}
use Rattle.stp_grammar.specs.declared.partial.Partial.TheVariants.{Start, Second}
use Rattle.stp_grammar.specs.Opcodes.{line_of, row_at, Opening}
use Rattle.stp_grammar.specs.Rule.{rule, begin, opened}
use Rattle.stp_grammar.proofs.EachRow.{numbered, each_test}
use Rattle.stp_grammar.proofs.Openings.{first_cases}
use Rattle.stp_grammar.proofs.Choices.{chosen, is_zero}
use Rattle.stp_grammar.proofs.Faults.{row_never_fails}

-- of the rows whose opcode is one nibble, NULL alone has neither payload nor timestamp
abbrev is_alone : Row → Bool
is_alone row = (line_of row).payload == 0 && (not (line_of row).stamped && (length (line_of row).opcode == 1))

row_ends : (row : Row) (v : StpPacket) (b : ℕ) → (line_of row).opcode ≡ b ∷ [] → begin row ≡ End v → v ≡ Plain Null 0
row_ends row v b e f = elim (chosen ((line_of row).payload == 0) f) [
  | inl m ↦ elim (chosen (line_of row).stamped m.1) [
    | inl n ↦ (let k = n.1 in cc)
    | inr n ↦
        let w : v ≡ Plain row 0 = (let k = n.1 in cc) in
        let alone : is_alone row ≡ true =
        ap (λ t. t && (not (line_of row).stamped && (length (line_of row).opcode == 1))) m.0
        ∙ ap (λ t. not t && (length (line_of row).opcode == 1)) n.0 ∙ ap (λ l. length l == 1) e in
        let zero : (line_of row).number ≡ 0 = is_zero (line_of row).number (sym (ap (λ t. cond t ((line_of row).number == 0) true) alone) ∙ each_test (λ row. cond (is_alone row) ((line_of row).number == 0) true) refl row) in
        w ∙ ap (λ r. Plain r 0) (sym (numbered row).1 ∙ ap row_at zero)
  ]
  | inr m ↦ (let k = m.1 in cc)
]

pub start_ends : (order : Order) (v : StpPacket) (b : ℕ) → End v ≡ rule order Start b → v ≡ Plain Null 0
start_ends order v b e = elim (first_cases b) [
  | inl m ↦ row_ends m.0 v b m.2 (sym (ap (λ (z : Opening). opened z Second) m.1) ∙ sym e)
  | inr m ↦ elim m [
    | inl n ↦ (let k = sym (ap (λ (z : Opening). opened z Second) n.1) ∙ sym e in cc)
    | inr n ↦ (let k = sym (ap (λ (z : Opening). opened z Second) n.1) ∙ sym e in cc)
  ]
]

pub start_never_fails : (order : Order) (r : Reason) (b : ℕ) → b < 16 → Fail r ≡ rule order Start b → ⊥
start_never_fails order r b h e = elim (first_cases b) [
  | inl m ↦ row_never_fails order m.0 r (sym (ap (λ (z : Opening). opened z Second) m.1) ∙ sym e)
  | inr m ↦ elim m [
    | inl n ↦ (let k = sym (ap (λ (z : Opening). opened z Second) n.1) ∙ sym e in cc)
    | inr n ↦ absurd (omega (arith, n.0))
  ]
]
