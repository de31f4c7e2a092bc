-- Each fault has its reason.
use Rattle.std.proofs.Common.{◌≡◌, ℕ, zero, suc, ◌+◌, ◌≤◌, List, [], ◌∷◌, ◌++◌, replicate, Bool, true, false, cond, refl, sym, ◌∙◌, ap, subst, inl, inr, arith}
use Rattle.std.specs.Prelude.{nat_lt, ◌==◌, ◌&&◌}
use Rattle.stp_grammar.specs.Names.{Reason, Unsupported, StampSize, BadAsync, Fail, Within, nibble_count}
use Rattle.stp_grammar.specs.declared.packet.Order.{Order}
use Rattle.stp_grammar.specs.declared.packet.Row.{Row}
use Rattle.stp_grammar.specs.declared.partial.Partial.{Partial}
use Rattle.stp_grammar.specs.declared.partial.Partial.TheVariants.{Start, Second, Third, Run, Payload, Size, Word}
use Rattle.stp_grammar.specs.Opcodes.{line_of, Opening, Whole as Opened, More, Refused, opening_of}
use Rattle.stp_grammar.specs.Spelling.{opening_fault, why}
use Rattle.stp_grammar.specs.Rule.{rule, first_opening, second_opening, third_opening, begin, opened, after_payload}
use Rattle.stp_grammar.proofs.Openings.{row_why, first_fault, second_fault, third_fault}
use Rattle.stp_grammar.proofs.Choices.{chosen}
use Rattle.stp_grammar.proofs.Runs.{run_cases}
use Rattle.stp_grammar.proofs.Reached.{Belongs, pushed, belongs}
use Rattle.stp_grammar.proofs.Walking.{from}

module _ (order : Order) where
  -- each fault has its reason
  pub row_never_fails : (row : Row) (e : Reason) → begin row ≡ Fail e → ⊥
  row_never_fails row e h = elim (chosen ((line_of row).payload == 0) h) [
    | inl m ↦ paid_never_fails row 0 e m.1
    | inr m ↦ (let k = m.1 in cc)
  ] where
    paid_never_fails : (row : Row) (payload : ℕ) (e : Reason) → after_payload row payload ≡ Fail e → ⊥
    paid_never_fails row payload e h = elim (chosen (line_of row).stamped h) [ inl m ↦ (let k = m.1 in cc) | inr m ↦ (let k = m.1 in cc) ]

  pub opened_fails : (o : Opening) (more : Partial) (e : Reason) → opened o more ≡ Fail e → (o ≡ Refused) × (e ≡ Unsupported)
  opened_fails (Opened row) more e h = absurd (row_never_fails row e h)
  opened_fails More more e h = cc
  opened_fails Refused more e h = (refl, cc)

  -- but where an ASYNC has begun, that of what the nibbles open
  pub why_opened : (t : Bool) (o : Opening) (e : Reason) → t ≡ false → opening_fault o ≡ Unsupported → e ≡ Unsupported → e ≡ cond t BadAsync (opening_fault o)
  why_opened t o e f g h = h ∙ sym g ∙ sym (ap (λ (z : Bool). cond z BadAsync (opening_fault o)) f)

  pub fails : (s : Partial) (r : List ℕ) (b : ℕ) (e : Reason) → Belongs order s r → rule order s b ≡ Fail e → e ≡ why (r ++ b ∷ [])
  fails Start r b e h f =
      let k = opened_fails (first_opening b) Second e f in
      subst (λ (l : List ℕ). e ≡ why (l ++ b ∷ [])) (sym h) (why_opened (b == 15 && false) (opening_of (b ∷ [])) e (never (b == 15)) (first_fault b k.0) k.1)
    where
      never : (t : Bool) → (t && false) ≡ false
      never true = refl
      never false = refl
  fails Second r b e h f = subst (λ (l : List ℕ). e ≡ why (l ++ b ∷ [])) (sym h)
      (elim (chosen (b == 15) f) [
        | inl m ↦ (let k = m.1 in cc)
        | inr m ↦ (let k = opened_fails (second_opening b) Third e m.1 in why_opened (b == 15) (opening_of (15 ∷ (b ∷ []))) e m.0 (second_fault b k.0) k.1)
      ])
  fails Third r b e h f =
      let k = opened_fails (third_opening b) Third e f in
      subst (λ (l : List ℕ). e ≡ why (l ++ b ∷ [])) (sym h) (why_opened false (opening_of (15 ∷ (0 ∷ (b ∷ [])))) e refl (third_fault b k.0) k.1)
  fails (Run n) r b e h f = subst (λ (l : List ℕ). e ≡ why (l ++ b ∷ [])) (sym h.1) (elim (run_cases order n b) [
    | inl m ↦ (let k = m.1 in cc)
    | inr m ↦ elim m [
      | inl o ↦ (let k = o.2 in cc)
      | inr o ↦ (let q : e ≡ BadAsync = cc in q ∙ sym (runs n h.0))
    ]
  ]) where
    runs : (n : ℕ) → 2 ≤ n → why (replicate n 15 ++ b ∷ []) ≡ BadAsync
    runs zero h = absurd (omega arith)
    runs (suc zero) h = absurd (omega arith)
    runs (suc (suc n)) h = refl
  fails (Payload row n v) r b e h f = elim (chosen (n + 1 == (line_of row).payload) f) [
    | inl m ↦ elim (chosen (line_of row).stamped m.1) [ inl o ↦ (let k = o.1 in cc) | inr o ↦ (let k = o.1 in cc) ]
    | inr m ↦ (let k = m.1 in cc)
  ]
  fails (Size row p) r b e h f = elim (chosen (nat_lt b 15) f) [
    | inl m ↦ elim (chosen (b == 0) m.1) [ inl o ↦ (let k = o.1 in cc) | inr o ↦ (let k = o.1 in cc) ]
    | inr m ↦
        let k = m.1 in
        let q : e ≡ StampSize = cc in
        q ∙ sym (row_why row (h.1 ++ b ∷ [])) ∙ ap why (pushed order (line_of row).opcode h.1 r b h.2)
  ]
  fails (Word row p size n v) r b e h f = elim (chosen (n + 1 == nibble_count size) f) [ inl m ↦ (let k = m.1 in cc) | inr m ↦ (let k = m.1 in cc) ]

  pub reason : (s : Partial) (r : List ℕ) (b : ℕ) (e : Reason) → from order Start r ≡ Within s → rule order s b ≡ Fail e → e ≡ why (r ++ b ∷ [])
  reason s r b e w f = fails s r b e (belongs order s r w) f
