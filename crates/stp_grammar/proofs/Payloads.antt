-- The walk over a payload, and what follows it.
use Rattle.std.proofs.Common.{◌≡◌, ℕ, ◌+◌, List, [], ◌++◌, length, append-nil, cond, refl, sym, ◌∙◌, ap, subst, inl, inr, arith}
use Rattle.std.specs.Prelude.{◌==◌}
use Rattle.std.proofs.lemmas.Bool.{cases_Bool}
use Rattle.stp_grammar.specs.Names.{Go, End, Whole, after}
use Rattle.stp_grammar.specs.declared.packet.Order.{Order}
use Rattle.stp_grammar.specs.declared.packet.Row.{Row}
use Rattle.stp_grammar.specs.declared.packet.StpPacket.{StpPacket}
use Rattle.stp_grammar.specs.declared.packet.StpPacket.TheVariants.{Plain}
use Rattle.stp_grammar.specs.declared.partial.Partial.TheVariants.{Payload, Size}
use Rattle.stp_grammar.specs.Opcodes.{line_of}
use Rattle.stp_grammar.specs.Spelling.{Spells, IsNumber, number}
use Rattle.stp_grammar.specs.Rule.{rule, number_with, begin, after_payload}
use Rattle.stp_grammar.proofs.Digits.{number_none, value_from, value_whole, stage_whole, stage_sound}
use Rattle.stp_grammar.proofs.Choices.{empty, is_zero, not_zero}
use Rattle.stp_grammar.proofs.Walking.{from, says, end_whole}
use Rattle.stp_grammar.proofs.StampWalks.{stamp_sound}

module _ (order : Order) where
  -- a payload, and what follows it
  pub payload_same : (row : Row) (n v b : ℕ) → rule order (Payload row n v) b ≡ cond (n + 1 == (line_of row).payload) (after_payload row (number_with order n v b)) (Go (Payload row (n + 1) (number_with order n v b)))
  payload_same row n v b = refl

  pub paid_sound : (row : Row) (payload : ℕ) (p w : List ℕ) (x : StpPacket) → IsNumber order (line_of row).payload payload p → after (after_payload row payload) (λ t. from order t w) w ≡ Whole x →
      Spells order x ((line_of row).opcode ++ (p ++ w))
  paid_sound row payload p w x n e = elim (cases_Bool (line_of row).stamped) [
    | inl m ↦
        let s = stamp_sound order row payload w x (sym (says order (after_payload row payload) (Go (Size row payload)) w (rw m refl)) ∙ e) in
        subst (λ (y : StpPacket). Spells order y ((line_of row).opcode ++ (p ++ w))) (sym s.6)
        (p, s.2, m, n, s.3, s.4, ap (λ (l : List ℕ). (line_of row).opcode ++ (p ++ l)) s.5)
    | inr m ↦
        let t = end_whole (Plain row payload) x (λ t. from order t w) w (sym (says order (after_payload row payload) (End (Plain row payload)) w (rw m refl)) ∙ e) in
        subst (λ (y : StpPacket). Spells order y ((line_of row).opcode ++ (p ++ w))) t.0
        (p, m, n, ap (λ (l : List ℕ). (line_of row).opcode ++ l) (ap (λ (l : List ℕ). p ++ l) t.1 ∙ append-nil p))
  ]

  pub begun_sound : (row : Row) (r : List ℕ) (x : StpPacket) → after (begin row) (λ t. from order t r) r ≡ Whole x → Spells order x ((line_of row).opcode ++ r)
  begun_sound row r x e = elim (cases_Bool ((line_of row).payload == 0)) [
    | inl m ↦ paid_sound row 0 [] r x (sym (is_zero (line_of row).payload m), number_none order)
        (sym (says order (begin row) (after_payload row 0) r (rw m refl)) ∙ e)
    | inr m ↦
        let s = stage_sound order (line_of row).payload (Payload row) (after_payload row) (payload_same row) 0 0 r x (not_zero (line_of row).payload m)
        (sym (says order (begin row) (Go (Payload row 0 0)) r (rw m refl)) ∙ e) in
        subst (λ (l : List ℕ). Spells order x ((line_of row).opcode ++ l)) (sym s.3)
        (paid_sound row (value_from order 0 0 s.0) s.0 s.1 x ((let l = s.2 in omega arith), value_whole order s.0) s.4)
  ]

  -- after the opcode and the payload
  pub begun_whole : (row : Row) (p w : List ℕ) → length p ≡ (line_of row).payload →
      after (begin row) (λ t. from order t (p ++ w)) (p ++ w) ≡ after (after_payload row (number order p)) (λ t. from order t w) w
  begun_whole row p w l = elim (cases_Bool ((line_of row).payload == 0)) [
    | inl m ↦
        let none : p ≡ [] = empty p (l ∙ is_zero (line_of row).payload m) in
        says order (begin row) (after_payload row 0) (p ++ w) (rw m refl)
        ∙ ap (λ (z : List ℕ). after (after_payload row 0) (λ t. from order t (z ++ w)) (z ++ w)) none
        ∙ ap (λ (z : ℕ). after (after_payload row z) (λ t. from order t w) w) (number_none order ∙ ap (number order) (sym none))
    | inr m ↦
        says order (begin row) (Go (Payload row 0 0)) (p ++ w) (rw m refl)
        ∙ stage_whole order (line_of row).payload (Payload row) (after_payload row) (payload_same row) 0 0 p w (not_zero (line_of row).payload m) (omega arith)
        ∙ ap (λ (z : ℕ). after (after_payload row z) (λ t. from order t w) w) (value_whole order p)
  ]
  -- an opcode walks to its row
