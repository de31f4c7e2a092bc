-- The rule decides the grammar.
use Rattle.std.proofs.Common.{◌≡◌, ℕ, zero, suc, ◌≤◌, List, [], ◌∷◌, ◌++◌, replicate, append-nil, true, false, refl, sym, ◌∙◌, ap, subst, inl, inr, arith}
use Rattle.std.specs.Prelude.{◌==◌}
use Rattle.std.proofs.lemmas.Bool.Decides.{nat_tests}
use Rattle.std.proofs.lemmas.Bool.{cases_Bool}
use Rattle.stp_grammar.specs.Names.{Unsupported, Go, End, Fail, Whole, after, Decides}
use Rattle.trace_values.proofs.Walks as walks
use Rattle.stp_grammar.specs.declared.packet.Order.{Order}
use Rattle.stp_grammar.specs.declared.packet.Row.{Row}
use Rattle.stp_grammar.specs.declared.packet.StpPacket.{StpPacket}
use Rattle.stp_grammar.specs.declared.packet.StpPacket.TheVariants.{Async, Plain, Stamped}
use Rattle.stp_grammar.specs.declared.partial.Partial.{Partial}
use Rattle.stp_grammar.specs.declared.partial.Partial.TheVariants.{Start, Second, Third, Run, Size}
use Rattle.stp_grammar.specs.Opcodes.{rows, line_of, Opening, Refused}
use Rattle.stp_grammar.specs.Spelling.{Spells, number, why}
use Rattle.stp_grammar.specs.Rule.{rule, first_opening, second_opening, third_opening, begin, opened, after_payload}
use Rattle.stp_grammar.proofs.EachRow.{AllOf, each}
use Rattle.stp_grammar.proofs.Openings.{IsRow, first_cases, second_cases, third_cases}
use Rattle.stp_grammar.proofs.Walking.{from, says}
use Rattle.stp_grammar.proofs.Runs.{run_complete, run_sound}
use Rattle.stp_grammar.proofs.StampWalks.{stamp_complete}
use Rattle.stp_grammar.proofs.Payloads.{begun_sound, begun_whole}
use Rattle.stp_grammar.proofs.Finishing.{finish}
use Rattle.stp_grammar.proofs.Faults.{reason}

module _ (order : Order) where
  abbrev pub Opens : List ℕ → Row → Type 0
  Opens w row = from order Start ((line_of row).opcode ++ w) ≡ after (begin row) (λ t. from order t w) w

  pub opened_walk : (row : Row) (w : List ℕ) → Opens w row
  opened_walk row w = each (Opens w) all row where
    all : AllOf (Opens w) rows
    all = (refl, (refl, (refl, (refl, (refl, (refl, (refl, (refl, (refl, (refl, (refl, (refl, (refl, (refl, (refl, (refl, (refl, (refl, (refl, (refl, (refl, (refl, (refl, (refl, (refl, (refl, (refl, (refl, (refl, (refl, (refl, (refl, (refl, (refl, (refl, tt)))))))))))))))))))))))))))))))))))

  -- whole are all spellings
  pub complete : (x : StpPacket) (r : List ℕ) → Spells order x r → from order Start r ≡ Whole x
  complete Async r s = ap (from order Start) s.2 ∙ run s.0 s.1 where
    run : (count : ℕ) → 21 ≤ count → from order Start (replicate count 15 ++ 0 ∷ []) ≡ Whole Async
    run zero h = absurd (omega arith)
    run (suc zero) h = absurd (omega arith)
    run (suc (suc k)) h = run_complete order k 2 (omega arith)
  complete (Plain row payload) r s =
      ap (from order Start) (s.3 ∙ ap (λ (l : List ℕ). (line_of row).opcode ++ l) (sym (append-nil s.0)))
      ∙ opened_walk row (s.0 ++ [])
      ∙ begun_whole order row s.0 [] s.2.0
      ∙ says order (after_payload row (number order s.0)) (End (Plain row (number order s.0))) [] (let m : (line_of row).stamped ≡ false = s.1 in rw m refl)
      ∙ ap (λ (z : ℕ). Whole (Plain row z)) (sym s.2.1)
  complete (Stamped row payload size word) r s =
      ap (from order Start) s.6 ∙ opened_walk row (s.0 ++ (size ∷ s.1))
      ∙ begun_whole order row s.0 (size ∷ s.1) s.3.0
      ∙ says order (after_payload row (number order s.0)) (Go (Size row (number order s.0))) (size ∷ s.1) (let m : (line_of row).stamped ≡ true = s.2 in rw m refl)
      ∙ stamp_complete order row (number order s.0) size s.1 s.4 s.5.0
      ∙ ap (λ (z : ℕ). Whole (Stamped row z size (number order s.1))) (sym s.3.1)
      ∙ ap (λ (z : ℕ). Whole (Stamped row payload size z)) (sym s.5.1)

  -- whole are only spellings
  pub row_sound : (o : Opening) (q : List ℕ) (more : Partial) (r : List ℕ) (x : StpPacket) → IsRow o q → after (opened o more) (λ t. from order t r) r ≡ Whole x → Spells order x (q ++ r)
  row_sound o q more r x (row, e, f) w =
      subst (λ (l : List ℕ). Spells order x (l ++ r)) f
      (begun_sound order row r x (sym (says order (opened o more) (begin row) r (ap (λ (z : Opening). opened z more) e)) ∙ w))

  pub refused : (o : Opening) (more : Partial) (r : List ℕ) (x : StpPacket) → o ≡ Refused → after (opened o more) (λ t. from order t r) r ≡ Whole x → ⊥
  refused o more r x e w = let k = sym (says order (opened o more) (Fail Unsupported) r (ap (λ (z : Opening). opened z more) e)) ∙ w in cc

  pub third_sound : (r : List ℕ) (x : StpPacket) → from order Third r ≡ Whole x → Spells order x (15 ∷ (0 ∷ r))
  third_sound [] x w = cc
  third_sound (c ∷ r) x w = elim (third_cases c) [
    | inl m ↦ row_sound (third_opening c) (15 ∷ (0 ∷ (c ∷ []))) Third r x m w
    | inr m ↦ absurd (refused (third_opening c) Third r x m.1 w)
  ]

  pub second_goes : (b : ℕ) → (b == 15) ≡ false → rule order Second b ≡ opened (second_opening b) Third
  second_goes b e = rw e refl

  pub second_sound : (r : List ℕ) (x : StpPacket) → from order Second r ≡ Whole x → Spells order x (15 ∷ r)
  second_sound [] x w = cc
  second_sound (b ∷ r) x w = elim (cases_Bool (b == 15)) [
    | inl t ↦
        let s = run_sound order 2 r x (sym (says order (rule order Second b) (Go (Run 2)) r (rw t refl)) ∙ w) in
        let a : b ≡ 15 = (grind (arith, nat_tests)) in
        let q : r ≡ replicate s.1 15 ++ 0 ∷ [] = s.3 in
        subst (λ (y : StpPacket). Spells order y (15 ∷ (b ∷ r))) (sym s.0) (suc (suc s.1), (let h = s.2 in omega arith), (let k : 15 ∷ (b ∷ r) ≡ replicate (suc (suc s.1)) 15 ++ 0 ∷ [] = cc in k))
    | inr t ↦
        let w' = sym (says order (rule order Second b) (opened (second_opening b) Third) r (second_goes b t)) ∙ w in
        elim (second_cases b) [
          | inl m ↦ row_sound (second_opening b) (15 ∷ (b ∷ [])) Third r x m w'
          | inr m ↦ elim m [
            | inl n ↦ subst (λ (z : ℕ). Spells order x (15 ∷ (z ∷ r))) (sym n.0)
                (third_sound r x (sym (says order (opened (second_opening b) Third) (Go Third) r (ap (λ (z : Opening). opened z Third) n.1)) ∙ w'))
            | inr n ↦ absurd (refused (second_opening b) Third r x n.1 w')
          ]
        ]
  ]

  pub sound : (x : StpPacket) (r : List ℕ) → from order Start r ≡ Whole x → Spells order x r
  sound x [] w = cc
  sound x (a ∷ r) w = elim (first_cases a) [
    | inl m ↦ row_sound (first_opening a) (a ∷ []) Second r x m w
    | inr m ↦ elim m [
      | inl n ↦ subst (λ (z : ℕ). Spells order x (z ∷ r)) (sym n.0)
          (second_sound r x (sym (says order (opened (first_opening a) Second) (Go Second) r (ap (λ (z : Opening). opened z Second) n.1)) ∙ w))
      | inr n ↦ absurd (refused (first_opening a) Second r x n.1 w)
    ]
  ]

  pub decided : Decides (Spells order) why (rule order) Start
  decided = walks.decides (rule order) (Spells order) why Start sound complete (finish order) (reason order)
