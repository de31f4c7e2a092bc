-- The walk over a timestamp.
use Rattle.std.proofs.Common.{◌≡◌, ℕ, ◌+◌, ◌<◌, List, [], ◌∷◌, ◌++◌, length, append-nil, true, cond, refl, sym, ◌∙◌, ap, ◌⊎◌, inl, inr, arith}
use Rattle.std.specs.Prelude.{nat_lt, ◌==◌}
use Rattle.std.proofs.lemmas.Bool.Decides.{nat_tests}
use Rattle.std.proofs.lemmas.Bool.{cases_Bool, ltb-true}
use Rattle.stp_grammar.specs.Names.{StampSize, Go, End, Fail, Whole, after, nibble_count}
use Rattle.stp_grammar.specs.declared.packet.Order.{Order}
use Rattle.stp_grammar.specs.declared.packet.Row.{Row}
use Rattle.stp_grammar.specs.declared.packet.StpPacket.{StpPacket}
use Rattle.stp_grammar.specs.declared.packet.StpPacket.TheVariants.{Stamped}
use Rattle.stp_grammar.specs.declared.partial.Partial.TheVariants.{Size, Word}
use Rattle.stp_grammar.specs.Spelling.{IsNumber, number}
use Rattle.stp_grammar.specs.Rule.{rule, number_with, size_with}
use Rattle.stp_grammar.proofs.Digits.{number_none, value_from, value_whole, stage_whole, stage_sound}
use Rattle.stp_grammar.proofs.Choices.{empty, chosen, is_zero, not_zero, some_word}
use Rattle.stp_grammar.proofs.Walking.{from, says, end_whole}

module _ (order : Order) where
  -- a timestamp
  abbrev pub IsStamp : Row → ℕ → List ℕ → StpPacket → Type 0
  IsStamp row payload r x =
      (size : ℕ) × (word : ℕ) × (w : List ℕ) × (size < 15) × IsNumber order (nibble_count size) word w × (r ≡ size ∷ w) × (x ≡ Stamped row payload size word)

  pub word_same : (row : Row) (payload size n v b : ℕ) → rule order (Word row payload size n v) b ≡ cond (n + 1 == nibble_count size) (End (Stamped row payload size (number_with order n v b))) (Go (Word row payload size (n + 1) (number_with order n v b)))
  word_same row payload size n v b = refl

  pub size_cases : (row : Row) (payload size : ℕ) →
      ((size ≡ 0) × (size_with row payload size ≡ End (Stamped row payload 0 0))) ⊎ ((0 < size) × (size < 15) × (size_with row payload size ≡ Go (Word row payload size 0 0))) ⊎ (size_with row payload size ≡ Fail StampSize)
  size_cases row payload size = elim (cases_Bool (nat_lt size 15)) [
    | inl m ↦ elim (cases_Bool (size == 0)) [
      | inl n ↦ inl (is_zero size n, rw m (rw n refl))
      | inr n ↦ inr (inl (not_zero size n, ltb-true size 15 m, rw m (rw n refl)))
    ]
    | inr m ↦ inr (inr (rw m refl))
  ]

  pub stamp_sound : (row : Row) (payload : ℕ) (r : List ℕ) (x : StpPacket) → from order (Size row payload) r ≡ Whole x → IsStamp row payload r x
  stamp_sound row payload [] x e = cc
  stamp_sound row payload (b ∷ r) x e = elim (size_cases row payload b) [
    | inl m ↦
        let t = end_whole (Stamped row payload 0 0) x (λ t. from order t r) r (sym (says order (size_with row payload b) (End (Stamped row payload 0 0)) r m.1) ∙ e) in
        (0, 0, [], omega arith, (refl, number_none order), (let a : b ≡ 0 = m.0 in let q : r ≡ [] = t.1 in cc), sym t.0)
    | inr m ↦ elim m [
      | inl o ↦
          let s = stage_sound order (nibble_count b) (Word row payload b) (λ v. End (Stamped row payload b v)) (word_same row payload b) 0 0 r x (some_word b o.0)
          (sym (says order (size_with row payload b) (Go (Word row payload b 0 0)) r o.2) ∙ e) in
          let t = end_whole (Stamped row payload b (value_from order 0 0 s.0)) x (λ t. from order t s.1) s.1 s.4 in
          let q : r ≡ s.0 = s.3 ∙ ap (λ (l : List ℕ). s.0 ++ l) t.1 ∙ append-nil s.0 in
          (b, number order s.0, s.0, o.1, ((let l = s.2 in omega arith), refl), ap (λ (l : List ℕ). b ∷ l) q, sym t.0 ∙ ap (Stamped row payload b) (value_whole order s.0))
      | inr o ↦ (let k = sym (says order (size_with row payload b) (Fail StampSize) r o) ∙ e in cc)
    ]
  ]

  pub stamp_complete : (row : Row) (payload size : ℕ) (w : List ℕ) → size < 15 → length w ≡ nibble_count size → from order (Size row payload) (size ∷ w) ≡ Whole (Stamped row payload size (number order w))
  stamp_complete row payload size w h l = elim (size_cases row payload size) [
    | inl m ↦
        let none : w ≡ [] = empty w (l ∙ ap nibble_count m.0) in
        says order (size_with row payload size) (End (Stamped row payload 0 0)) w m.1
        ∙ ap (λ (z : List ℕ). after (End (Stamped row payload 0 0)) (λ t. from order t z) z) none
        ∙ ap (λ (z : ℕ). Whole (Stamped row payload z 0)) (sym m.0)
        ∙ ap (λ (z : ℕ). Whole (Stamped row payload size z)) (number_none order ∙ ap (number order) (sym none))
    | inr m ↦ elim m [
      | inl o ↦
          says order (size_with row payload size) (Go (Word row payload size 0 0)) w o.2
          ∙ ap (from order (Word row payload size 0 0)) (sym (append-nil w))
          ∙ stage_whole order (nibble_count size) (Word row payload size) (λ v. End (Stamped row payload size v)) (word_same row payload size) 0 0 w [] (some_word size o.0) (omega arith)
          ∙ ap (λ (z : ℕ). Whole (Stamped row payload size z)) (value_whole order w)
      | inr o ↦ absurd (no_fail o)
    ]
  ] where
    no_fail : size_with row payload size ≡ Fail StampSize → ⊥
    no_fail e =
        let t : nat_lt size 15 ≡ true = grind (arith, nat_tests) in
        elim (chosen (nat_lt size 15) e) [
          | inl m ↦ elim (chosen (size == 0) m.1) [ inl n ↦ (let k = n.1 in cc) | inr n ↦ (let k = n.1 in cc) ]
          | inr m ↦ (let k = m.0 in cc)
        ]
