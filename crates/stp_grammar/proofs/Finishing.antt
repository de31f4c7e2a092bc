-- Each state that is reached can be finished.
use Rattle.std.proofs.Common.{◌≡◌, ℕ, ◌-◌, List, [], ◌∷◌, ◌++◌, replicate, false, refl, ◌∙◌, inl, inr, arith}
use Rattle.std.proofs.lemmas.List.{length-replicate}
use Rattle.std.proofs.lemmas.Bool.{cases_Bool}
use Rattle.stp_grammar.specs.Names.{Go, End, Within, Whole, after, walk, nibble_count}
use Rattle.stp_grammar.specs.declared.packet.Order.{Order}
use Rattle.stp_grammar.specs.declared.packet.Order.TheVariants.{Msn, Lsn}
use Rattle.stp_grammar.specs.declared.packet.Row.{Row}
use Rattle.stp_grammar.specs.declared.packet.Row.TheVariants.{Null, Flag, Version}
use Rattle.stp_grammar.specs.declared.packet.StpPacket.{StpPacket}
use Rattle.stp_grammar.specs.declared.packet.StpPacket.TheVariants.{Async, Plain, Stamped}
use Rattle.stp_grammar.specs.declared.partial.Partial.{Partial}
use Rattle.stp_grammar.specs.declared.partial.Partial.TheVariants.{Start, Second, Third, Run, Payload, Size, Word}
use Rattle.stp_grammar.specs.Opcodes.{line_of}
use Rattle.stp_grammar.specs.Rule.{rule, after_payload}
use Rattle.stp_grammar.proofs.Digits.{value_from, stage_whole}
use Rattle.stp_grammar.proofs.Walking.{from, says}
use Rattle.stp_grammar.proofs.Runs.{run_complete}
use Rattle.stp_grammar.proofs.StampWalks.{word_same}
use Rattle.stp_grammar.proofs.Payloads.{payload_same}
use Rattle.stp_grammar.proofs.Reached.{Belongs, belongs}

module _ (order : Order) where
  -- each state can be finished
  abbrev pub CanEnd : Partial → Type 0
  CanEnd s = (x : StpPacket) × (w : List ℕ) × (from order s w ≡ Whole x)

  pub paid_ends : (row : Row) (payload : ℕ) → (x : StpPacket) × (w : List ℕ) × (after (after_payload row payload) (λ t. from order t w) w ≡ Whole x)
  paid_ends row payload = elim (cases_Bool (line_of row).stamped) [
    | inl m ↦ (Stamped row payload 0 0, 0 ∷ [], says order (after_payload row payload) (Go (Size row payload)) (0 ∷ []) (rw m refl))
    | inr m ↦ (Plain row payload, [], says order (after_payload row payload) (End (Plain row payload)) [] (rw m refl))
  ]

  pub ending : (s : Partial) (r : List ℕ) → Belongs order s r → CanEnd s
  ending Start r h = (Plain Null 0, 0 ∷ [], refl)
  ending Second r h = (Plain (Flag false) 0, 14 ∷ [], refl)
  ending Third r h = (Plain Version 0, 0 ∷ (0 ∷ []), zero_ends order) where
    zero_ends : (o : Order) → walk (rule o) Third (0 ∷ (0 ∷ [])) ≡ Whole (Plain Version 0)
    zero_ends Msn = refl
    zero_ends Lsn = refl
  ending (Run n) r h = (Async, replicate 21 15 ++ 0 ∷ [], run_complete order 21 n (omega arith))
  ending (Payload row n v) r h =
      let d : List ℕ = replicate ((line_of row).payload - n) 0 in
      let k = paid_ends row (value_from order n v d) in
      (k.0, d ++ k.1, stage_whole order (line_of row).payload (Payload row) (after_payload row) (payload_same order row) n v d k.1 h.0 (let z = h.0 in omega (arith, length-replicate {A = ℕ} ((line_of row).payload - n) 0)) ∙ k.2)
  ending (Size row p) r h = (Stamped row p 0 0, 0 ∷ [], refl)
  ending (Word row p size n v) r h =
      let d : List ℕ = replicate (nibble_count size - n) 0 in (
        Stamped row p size (value_from order n v d),
        d ++ [],
        stage_whole order (nibble_count size) (Word row p size) (λ v. End (Stamped row p size v)) (word_same order row p size) n v d [] h.2
            (let z = h.2 in omega (arith, length-replicate {A = ℕ} (nibble_count size - n) 0)),
      )

  pub finish : (s : Partial) (r : List ℕ) → from order Start r ≡ Within s → CanEnd s
  finish s r e = ending s r (belongs order s r e)
