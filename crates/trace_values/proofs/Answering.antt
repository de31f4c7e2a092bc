-- What the rule says of one more unit is what the grammar says of the rest with it.
use Rattle.std.proofs.Common.{◌≡◌, List, [], ◌∷◌, ◌++◌, sym, ◌∙◌, ap, Bool, true}
use Rattle.trace_values.specs.declared.fault.Reason.{Reason}
use Rattle.trace_values.specs.declared.next.Next.{Next}
use Rattle.trace_values.specs.declared.next.Next.TheVariants.{Go, End, Fail}
use Rattle.trace_values.specs.Placed.{Placed}
use Rattle.trace_values.specs.Walk.{Within, Whole, walk, Decides}
use Rattle.trace_values.specs.Reading.{progress}
use Rattle.trace_values.specs.Standing.{Keeps}
use Rattle.trace_values.proofs.OneUnit.{Says}
use Rattle.trace_values.proofs.Walks.{walk_push, walked, no_front}
use Rattle.trace_values.proofs.Readings.{rest_walks}
use Rattle.trace_values.proofs.Standings.{none_of}

module _ {S V : Type 0} (Spells : V → List Placed → Type 0) (why : List Placed → Reason) (rule : S → Placed → Next S V) (start : S) (d : Decides Spells why rule start) where
  not_whole : (v : V) (s : S) (r : List Placed) → walk rule start r ≡ Within s → walk rule start r ≡ Whole v → ⊥
  not_whole v s r p q = cc

  says_at : (s : S) (r : List Placed) (b : Placed) (n : Next S V) → walk rule start r ≡ Within s → rule s b ≡ n → walk rule start (r ++ b ∷ []) ≡ walked rule n → Says Spells why n (r ++ b ∷ [])
  says_at s r b (Go t) w e k = (d.goes_on t (r ++ b ∷ []) k, λ v z. not_whole v t (r ++ b ∷ []) k (d.complete v (r ++ b ∷ []) z))
  says_at s r b (End v) w e k = d.sound v (r ++ b ∷ []) k
  says_at s r b (Fail f) w e k = (no_front Spells why rule start d f (r ++ b ∷ []) k, d.reason s r b f w e)

  -- where a machine stands for a list, with the list's rest
  pub says : (u : List Placed) (live : Bool) (state : S) (b : Placed) (n : Next S V) → live ≡ true → n ≡ rule state b → Keeps live state (progress rule start u) →
      Says Spells why n ((progress rule start u).rest ++ b ∷ [])
  says u live state b n l e s =
      let w : walk rule start (progress rule start u).rest ≡ Within state = rest_walks Spells why rule start d u (none_of (progress rule start u).fault (sym l ∙ s.live_is)) ∙ ap (λ (t : S). Within t) s.state_is in
      says_at state (progress rule start u).rest b n w (sym e) (walk_push rule start state (progress rule start u).rest b w ∙ ap (λ (x : Next S V). walked rule x) (sym e))
