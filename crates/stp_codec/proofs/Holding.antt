-- But for nibbles F, a decoder holds at most 34.
use Rattle.std.proofs.Common.{◌≡◌, ℕ, ◌≤◌, List, length, take, All, sym, ◌∙◌, ap, subst, arith, ◌⊎◌, inl, inr, Bool}
use Rattle.std.proofs.Math.Seq.{take-append_seam}
use Rattle.std.proofs.lemmas.List.{map-append}
use Rattle.stp_codec.specs.Names.{Mode, Aligned, Hunting, Placed, units_of, Within, walk, by_unit, Progress, progress}
use Rattle.stp_codec.specs.Names.{StandsIn, hunts, Order, StpPacket, Async, Partial, Start, rule, count_of}
use Rattle.trace_values.specs.declared.mode.Mode.TheVariants.{Locked}
use Rattle.trace_values.proofs.Placing.{walk_units}
use Rattle.trace_values.proofs.Fronts.{Leaves, leaves}
use Rattle.stp_grammar.proofs.Counting.{counted_nibbles}
use Rattle.stp_grammar.proofs.Holding.{holds_few}
use Rattle.stp_codec.specs.Reading.{pattern, rest_found, rest_in}
use Rattle.stp_codec.proofs.Answering.{locked_reading}

-- this many nibbles of a rest
abbrev Few : Partial → List Placed → Type 0
Few partial rest = (count_of partial ≤ 34) ⊎ All (λ b. b ≡ 15) (take (count_of partial) (units_of rest))

module _ (order : Order) where
  few_at : (q : Progress Partial StpPacket) → Leaves (by_unit (rule order)) Start q → Few q.state q.rest
  few_at q k =
      let f = units_of k.front in
      let w : walk (rule order) Start f ≡ Within q.state = sym (walk_units (rule order) Start k.front) ∙ k.walks in
      let n : count_of q.state ≡ length f = (let c = counted_nibbles order Start q.state f w in omega (arith, c)) in
      let t : take (count_of q.state) (units_of q.rest) ≡ f =
      ap (λ (i : ℕ). take i (units_of q.rest)) n ∙ ap (λ (l : List ℕ). take (length f) l) (ap units_of k.parts ∙ map-append (λ (p : Placed). p.unit) k.front k.more)
      ∙ take-append_seam f (units_of k.more) in
      elim (holds_few order q.state f w) [
        | inl m ↦ inl (omega (arith, n, m))
        | inr m ↦ inr (subst (λ (l : List ℕ). All (λ b. b ≡ 15) l) (sym t) m)
      ]

  pub few : (m : Mode) (live : Bool) (partial : Partial) (n : List Placed) → StandsIn pattern Async (by_unit (rule order)) Start m live partial n →
      (count_of partial ≤ 34) ⊎ All (λ b. b ≡ 15) (take (count_of partial) (units_of (rest_in order (hunts m) n)))
  few Aligned live partial n s =
      subst (λ (p : Partial). Few p (progress (by_unit (rule order)) Start n).rest) s.state_is (few_at (progress (by_unit (rule order)) Start n) (leaves (by_unit (rule order)) Start n))
  few (Hunting run skipped) live partial n s = inl (let k : count_of partial ≡ 0 = ap count_of s.2 in omega (arith, k))
  few (Locked skipped) live partial n s =
      let known = locked_reading order n s.found s.some in
      subst (λ (o : List Placed). Few partial o) (sym (ap (λ o. rest_found o) s.some))
      (subst (λ (p : Partial). Few p s.found.reading.rest) s.stands.state_is
      (few_at s.found.reading (subst (λ (q : Progress Partial StpPacket). Leaves (by_unit (rule order)) Start q) (sym known.1) (leaves (by_unit (rule order)) Start known.0))))
