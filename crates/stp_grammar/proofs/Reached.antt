-- Which nibbles leave the rule in a state.
use Rattle.std.proofs.Common.{◌≡◌, ℕ, ◌+◌, ◌<◌, ◌≤◌, List, [], ◌∷◌, ◌++◌, replicate, append_assoc, append-nil, Bool, true, false, cond, refl, sym, ◌∙◌, ap, subst, inl, inr, arith}
use Rattle.std.proofs.lemmas.List.{replicate_more}
use Rattle.std.specs.Prelude.{◌==◌}
use Rattle.std.proofs.lemmas.Bool.Decides.{nat_tests}
use Rattle.stp_grammar.specs.Names.{StampSize, BadAsync, Next, Go, End, Fail, Walked, Within, after, nibble_count}
use Rattle.stp_grammar.specs.declared.packet.Order.{Order}
use Rattle.stp_grammar.specs.declared.packet.Row.{Row}
use Rattle.stp_grammar.specs.declared.packet.StpPacket.{StpPacket}
use Rattle.stp_grammar.specs.declared.packet.StpPacket.TheVariants.{Async, Plain, Stamped}
use Rattle.stp_grammar.specs.declared.partial.Partial.{Partial}
use Rattle.stp_grammar.specs.declared.partial.Partial.TheVariants.{Start, Second, Third, Run, Payload, Size, Word}
use Rattle.stp_grammar.specs.Opcodes.{line_of, Opening, More, Refused}
use Rattle.stp_grammar.specs.Rule.{rule, first_opening, second_opening, third_opening, number_with, begin, opened, after_payload, size_with}
use Rattle.stp_grammar.proofs.Openings.{IsRow, first_cases, second_cases, third_cases}
use Rattle.stp_grammar.proofs.Choices.{not_zero, still_under, some_word}
use Rattle.stp_grammar.proofs.Runs.{run_with, run_cases}
use Rattle.stp_grammar.proofs.StampWalks.{size_cases}
use Rattle.stp_grammar.proofs.Walking.{from}

module _ (order : Order) where
  -- which nibbles leave the rule in a state
  abbrev pub Belongs : Partial → List ℕ → Type 0
  Belongs Start r = r ≡ []
  Belongs Second r = r ≡ 15 ∷ []
  Belongs Third r = r ≡ 15 ∷ (0 ∷ [])
  Belongs (Run n) r = (2 ≤ n) × (r ≡ replicate n 15)
  Belongs (Payload row n v) r = (n < (line_of row).payload) × (d : List ℕ) × (r ≡ (line_of row).opcode ++ d)
  Belongs (Size row p) r = ((line_of row).stamped ≡ true) × (d : List ℕ) × (r ≡ (line_of row).opcode ++ d)
  Belongs (Word row p size n v) r = ((line_of row).stamped ≡ true) × (size < 15) × (n < nibble_count size) × (d : List ℕ) × (r ≡ (line_of row).opcode ++ d)

  -- where a step goes on, it does so in such a state
  abbrev pub Leads : Next Partial StpPacket → List ℕ → Type 0
  Leads (Go t) r = Belongs t r
  Leads (End v) r = Unit {0}
  Leads (Fail e) r = Unit {0}

  pub leads_if : (t : Bool) (x y : Next Partial StpPacket) (r : List ℕ) → (t ≡ true → Leads x r) → (t ≡ false → Leads y r) → Leads (cond t x y) r
  leads_if true x y r h k = h refl
  leads_if false x y r h k = k refl

  pub leads_after : (row : Row) (payload : ℕ) (d : List ℕ) → Leads (after_payload row payload) ((line_of row).opcode ++ d)
  leads_after row payload d = leads_if (line_of row).stamped (Go (Size row payload)) (End (Plain row payload)) _ (λ e. (e, d, refl)) (λ e. tt)

  pub leads_begin : (row : Row) (r : List ℕ) → (line_of row).opcode ≡ r → Leads (begin row) r
  leads_begin row r e =
      let q : (line_of row).opcode ++ [] ≡ r = append-nil (line_of row).opcode ∙ e in
      subst (λ (l : List ℕ). Leads (begin row) l) q
      (leads_if ((line_of row).payload == 0) (after_payload row 0) (Go (Payload row 0 0)) _ (λ t. leads_after row 0 []) (λ t. (not_zero (line_of row).payload t, [], refl)))

  pub leads_row : (o : Opening) (more : Partial) (r : List ℕ) → IsRow o r → Leads (opened o more) r
  leads_row o more r (row, e, f) = subst (λ (z : Opening). Leads (opened z more) r) (sym e) (leads_begin row r f)

  pub leads_more : (o : Opening) (more : Partial) (r : List ℕ) → o ≡ More → Belongs more r → Leads (opened o more) r
  leads_more o more r e b = subst (λ (z : Opening). Leads (opened z more) r) (sym e) b

  pub leads_none : (o : Opening) (more : Partial) (r : List ℕ) → o ≡ Refused → Leads (opened o more) r
  leads_none o more r e = subst (λ (z : Opening). Leads (opened z more) r) (sym e) tt

  pub leads_by : (x y : Next Partial StpPacket) (r : List ℕ) → x ≡ y → Leads y r → Leads x r
  leads_by x y r e h = subst (λ z. Leads z r) (sym e) h

  pub pushed : (q d r : List ℕ) (b : ℕ) → r ≡ q ++ d → q ++ (d ++ b ∷ []) ≡ r ++ b ∷ []
  pushed q d r b e = sym (append_assoc q d (b ∷ [])) ∙ ap (λ (l : List ℕ). l ++ b ∷ []) (sym e)

  pub keeps : (s : Partial) (r : List ℕ) (b : ℕ) → Belongs s r → Leads (rule order s b) (r ++ b ∷ [])
  keeps Start r b h =
      subst (λ (l : List ℕ). Leads (rule order Start b) (l ++ b ∷ [])) (sym h)
      (elim (first_cases b) [
        | inl m ↦ leads_row (first_opening b) Second (b ∷ []) m
        | inr m ↦ elim m [
          | inl n ↦ leads_more (first_opening b) Second (b ∷ []) n.1 (ap (λ (z : ℕ). z ∷ []) n.0)
          | inr n ↦ leads_none (first_opening b) Second (b ∷ []) n.1
        ]
      ])
  keeps Second r b h =
      subst (λ (l : List ℕ). Leads (rule order Second b) (l ++ b ∷ [])) (sym h)
      (leads_if (b == 15) (Go (Run 2)) (opened (second_opening b) Third) (15 ∷ (b ∷ [])) (λ t. (omega arith, (let a : b ≡ 15 = grind (arith, nat_tests) in ap (λ (z : ℕ). 15 ∷ (z ∷ [])) a)))
      (λ t. elim (second_cases b) [
        | inl m ↦ leads_row (second_opening b) Third (15 ∷ (b ∷ [])) m
        | inr m ↦ elim m [
          | inl n ↦ leads_more (second_opening b) Third (15 ∷ (b ∷ [])) n.1 (ap (λ (z : ℕ). 15 ∷ (z ∷ [])) n.0)
          | inr n ↦ leads_none (second_opening b) Third (15 ∷ (b ∷ [])) n.1
        ]
      ]))
  keeps Third r b h =
      subst (λ (l : List ℕ). Leads (rule order Third b) (l ++ b ∷ [])) (sym h)
      (elim (third_cases b) [
        | inl m ↦ leads_row (third_opening b) Third (15 ∷ (0 ∷ (b ∷ []))) m
        | inr m ↦ leads_none (third_opening b) Third (15 ∷ (0 ∷ (b ∷ []))) m.1
      ])
  keeps (Run n) r b h = elim (run_cases order n b) [
    | inl m ↦ leads_by (run_with n b) (Go (Run (n + 1))) (r ++ b ∷ []) m.1
        ((let k = h.0 in omega arith), ap (λ (l : List ℕ). l ++ b ∷ []) h.1 ∙ ap (λ (z : ℕ). replicate n 15 ++ z ∷ []) m.0 ∙ replicate_more n 15)
    | inr m ↦ elim m [
      | inl o ↦ leads_by (run_with n b) (End Async) (r ++ b ∷ []) o.2 tt
      | inr o ↦ leads_by (run_with n b) (Fail BadAsync) (r ++ b ∷ []) o tt
    ]
  ]
  keeps (Payload row n v) r b h =
      let q = pushed (line_of row).opcode h.1 r b h.2 in
      leads_if (n + 1 == (line_of row).payload) (after_payload row (number_with order n v b)) (Go (Payload row (n + 1) (number_with order n v b))) (r ++ b ∷ [])
      (λ t. subst (λ (l : List ℕ). Leads (after_payload row (number_with order n v b)) l) q (leads_after row (number_with order n v b) (h.1 ++ b ∷ [])))
      (λ t. (still_under n (line_of row).payload h.0 t, h.1 ++ b ∷ [], sym q))
  keeps (Size row p) r b h =
      let q = pushed (line_of row).opcode h.1 r b h.2 in
      elim (size_cases order row p b) [
        | inl m ↦ leads_by (size_with row p b) (End (Stamped row p 0 0)) (r ++ b ∷ []) m.1 tt
        | inr m ↦ elim m [
          | inl o ↦ leads_by (size_with row p b) (Go (Word row p b 0 0)) (r ++ b ∷ []) o.2 (h.0, o.1, some_word b o.0, h.1 ++ b ∷ [], sym q)
          | inr o ↦ leads_by (size_with row p b) (Fail StampSize) (r ++ b ∷ []) o tt
        ]
      ]
  keeps (Word row p size n v) r b h =
      let q = pushed (line_of row).opcode h.3 r b h.4 in
      leads_if (n + 1 == nibble_count size) (End (Stamped row p size (number_with order n v b))) (Go (Word row p size (n + 1) (number_with order n v b))) (r ++ b ∷ [])
      (λ t. tt) (λ t. (h.0, h.1, still_under n (nibble_count size) h.2 t, h.3 ++ b ∷ [], sym q))

  pub never_within : (t : Partial) (v : StpPacket) (w : List ℕ) (more : Partial → Walked Partial StpPacket) → after (End v) more w ≡ Within t → ⊥
  never_within t v [] more h = cc
  never_within t v (c ∷ w) more h = cc

  -- by the list that was walked
  pub belongs_from : (s t : Partial) (q r : List ℕ) → Belongs s q → from order s r ≡ Within t → Belongs t (q ++ r)
  belongs_from s t q [] h e = let k : s ≡ t = cc in subst (λ (z : Partial). Belongs z (q ++ [])) k (subst (Belongs s) (sym (append-nil q)) h)
  belongs_from s t q (b ∷ r) h e = by (rule order s b) (keeps s q b h) e (λ z l f. belongs_from z t (q ++ b ∷ []) r l f) where
    by : (x : Next Partial StpPacket) → Leads x (q ++ b ∷ []) → after x (λ z. from order z r) r ≡ Within t →
        ((z : Partial) → Belongs z (q ++ b ∷ []) → from order z r ≡ Within t → Belongs t ((q ++ b ∷ []) ++ r)) → Belongs t (q ++ (b ∷ r))
    by (Go z) l e more = subst (Belongs t) (append_assoc q (b ∷ []) r) (more z l e)
    by (End v) l e more = absurd (never_within t v r (λ z. from order z r) e)
    by (Fail f) l e more = cc

  pub belongs : (s : Partial) (r : List ℕ) → from order Start r ≡ Within s → Belongs s r
  belongs s r e = belongs_from Start s [] r refl e
