-- What a machine takes of bytes at once, wherever they are.
use Rattle.std.specs.Prelude.{◌≡◌, ℕ, List, [], ◌∷◌, ◌++◌, Option, None, Some}
use Rattle.trace_values.specs.declared.step.Step.{Step}
use Rattle.trace_values.specs.declared.step.Step.TheVariants.{Item}
use Rattle.trace_values.specs.Placed.{Place, Placed}
use Rattle.trace_values.specs.Stream.{Said, Stream, given_by}

-- what the answer to the last byte gives, where there is one
abbrev pub given_after : {V : Type 0} → ℕ → Option (Step V) → List (Said V × Place)
given_after at None = []
given_after at (Some step) = given_by at step

-- After u these bytes give what this answer to the last of them says, and nothing else, and the reading goes on.
pub record Passes {V : Type 0} (reading : List Placed → Stream V) (stands : List Placed → Type 0)
    (u front : List Placed)
    (last : Placed) (step : Option (Step V)) : Type 0 where
  pub list : stands (u ++ (front ++ last ∷ []))
  pub given : (reading (u ++ (front ++ last ∷ []))).given ≡ (reading u).given ++ given_after last.place.at step
  pub sound : (reading (u ++ (front ++ last ∷ []))).fault ≡ None

-- the answer to a byte in this half of which an item ends, if one does
abbrev pub item_at : {V : Type 0} → ℕ → Option V → Option (Step V)
item_at half None = None
item_at half (Some item) = Some (Item half item)

-- nothing was taken: it stands for what it stood for, holds as many units, and has skipped as many
abbrev pub TakesNone : {M : Type 0} → (M → List Placed → Type 0) → (held skipped : M → ℕ) → M → M → Type 0
TakesNone stands held skipped old new =
    ((u : List Placed) → stands old u → stands new u) × (held new ≡ held old) × (skipped new ≡ skipped old)
