-- What one more part of a capture adds to what the port and each source say.
use Rattle.std.proofs.Common.{◌≡◌, ℕ, List, [], ◌∷◌, ◌++◌, Option}
use Rattle.trace_values.specs.Placed.{Place}
use Rattle.source_events.specs.declared.event.What.{What}
use Rattle.source_events.specs.Merge.{start_of, AllIn}

-- one more part adds to what its own source, or the port, says alone, and what it adds is in it
pub record Adds {X V : Type 0} (end : X → ℕ) (whose : X → Option ℕ) (said : Option ℕ → List X → List (What V × Place))
    (x : Option ℕ) (n : ℕ) (before : List X) (m : X) : Type 0 where
  pub more : List (What V × Place)
  pub given : said x (before ++ m ∷ []) ≡ said x before ++ more
  pub all : AllIn (start_of n) (end m) more
  pub own : (whose m ≡ x → ⊥) → more ≡ []

-- after parts of which something holds up to an offset
abbrev pub AddsAlways : {X V : Type 0} → (ℕ → List X → Type 0) → (ℕ → X → Type 0) → (X → ℕ) → (X → Option ℕ) →
    (Option ℕ → List X → List (What V × Place)) → Type 0
AddsAlways {X} Ahead Lies end whose said =
    (x : Option ℕ) (n : ℕ) (before : List X) (m : X) → Ahead n before → Lies n m → Adds end whose said x n before m

-- and with one more part it holds up to the end of that
abbrev pub GoesOn : {X : Type 0} → (ℕ → List X → Type 0) → (ℕ → X → Type 0) → (X → ℕ) → Type 0
GoesOn {X} Ahead Lies end =
    (n : ℕ) (before : List X) (m : X) → Ahead n before → Lies n m → Ahead (end m) (before ++ m ∷ [])
