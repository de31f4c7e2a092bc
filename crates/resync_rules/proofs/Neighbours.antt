-- Patterns that tell no value.
use Rattle.std.proofs.Common.{◌≡◌, ℕ, List, [], ◌∷◌, ◌++◌, sym, append-nil, None}
use Rattle.resync_rules.specs.Names.{Reason, Next, Place, Placed, units_of, Decides, progress, reading, EndsWith}
use Rattle.trace_values.proofs.Readings as readings
use Rattle.resync_rules.specs.Fronts.{EndsOnly}

-- it ends a list that is spellings, none of which is of v
pub ends_not : {S V : Type 0} (Spells : V → List Placed → Type 0) (why : List Placed → Reason) (rule : S → Placed → Next S V) (start : S) → Decides Spells why rule start →
    (pattern : List ℕ) (v : V) (u : List Placed) → (progress rule start u).fault ≡ None → EndsWith pattern (units_of u) →
    ((early later : List (V × Place)) (place : Place) → (progress rule start u).items ≡ early ++ ((v, place) ∷ later) → ⊥) → EndsOnly Spells why pattern v → ⊥
ends_not Spells why rule start d pattern v u f e none law =
    let a = (law u (reading rule start u) (readings.reading_is Spells why rule start d u) f u [] (sym (append-nil u))).0 e in
    none a.early a.later a.place a.parts
