-- But for bytes 00, a decoder holds few bytes.
use Rattle.std.proofs.Common.{◌≡◌, ℕ, ◌≤◌, List, length, take, All, sym, ◌∙◌, ap, subst, arith, ◌⊎◌, inl, inr, Bool}
use Rattle.std.proofs.Math.Seq.{take-append_seam}
use Rattle.std.proofs.lemmas.List.{map-append}
use Rattle.itm_codec.specs.Names.{Mode, Aligned, Hunting, Locked, Placed, units_of, Within, walk, by_unit, Progress}
use Rattle.itm_codec.specs.Names.{progress, StandsIn, hunts, ItmPacket, Sync, Partial, Header, rule, count_of}
use Rattle.trace_values.proofs.Placing.{walk_units}
use Rattle.trace_values.proofs.Fronts.{Leaves, leaves}
use Rattle.itm_grammar.proofs.Deciding.{counted_bytes}
use Rattle.itm_grammar.proofs.Holding.{holds_few}
use Rattle.itm_codec.specs.Reading.{pattern, rest_found, rest_in}
use Rattle.itm_codec.proofs.Answering.{locked_reading}

-- this many bytes of a rest
abbrev Few : Partial → List Placed → Type 0
Few partial rest = (count_of partial ≤ 6) ⊎ All (λ b. b ≡ 0) (take (count_of partial) (units_of rest))

few_at : (q : Progress Partial ItmPacket) → Leaves (by_unit rule) Header q → Few q.state q.rest
few_at q k =
    let f = units_of k.front in
    let w : walk rule Header f ≡ Within q.state = sym (walk_units rule Header k.front) ∙ k.walks in
    let n : count_of q.state ≡ length f = (let c = counted_bytes Header q.state f w in omega (arith, c)) in
    let t : take (count_of q.state) (units_of q.rest) ≡ f =
    ap (λ (i : ℕ). take i (units_of q.rest)) n ∙ ap (λ (l : List ℕ). take (length f) l) (ap units_of k.parts ∙ map-append (λ (p : Placed). p.unit) k.front k.more)
    ∙ take-append_seam f (units_of k.more) in
    elim (holds_few q.state f w) [
      | inl m ↦ inl (omega (arith, n, m))
      | inr m ↦ inr (subst (λ (l : List ℕ). All (λ b. b ≡ 0) l) (sym t) m)
    ]

pub few : (m : Mode) (live : Bool) (partial : Partial) (u : List Placed) → StandsIn pattern Sync (by_unit rule) Header m live partial u →
    (count_of partial ≤ 6) ⊎ All (λ b. b ≡ 0) (take (count_of partial) (units_of (rest_in (hunts m) u)))
few Aligned live partial u s =
    subst (λ (p : Partial). Few p (progress (by_unit rule) Header u).rest) s.state_is (few_at (progress (by_unit rule) Header u) (leaves (by_unit rule) Header u))
few (Hunting run skipped) live partial u s = inl (let k : count_of partial ≡ 0 = ap count_of s.2 in omega (arith, k))
few (Locked skipped) live partial u s =
    let known = locked_reading u s.found s.some in
    subst (λ (o : List Placed). Few partial o) (sym (ap (λ o. rest_found o) s.some))
    (subst (λ (p : Partial). Few p s.found.reading.rest) s.stands.state_is
    (few_at s.found.reading (subst (λ (q : Progress Partial ItmPacket). Leaves (by_unit rule) Header q) (sym known.1) (leaves (by_unit rule) Header known.0))))
