-- Words for what is written, and for where a fault becomes certain.
use Rattle.std.specs.Prelude.{◌≡◌, List, ℕ, [], ◌∷◌, ◌++◌}

-- the new list begins with the old one
abbrev pub GrowsOnly : List ℕ → List ℕ → Type 0
GrowsOnly old new = (more : List ℕ) × (new ≡ old ++ more)

-- the fault became certain with the last of these bytes
pub record IsCertainAt (faulty : List ℕ → Type 0) (seen : List ℕ) : Type 0 where
  pub front : List ℕ
  pub last : ℕ
  pub all : seen ≡ front ++ last ∷ []
  pub sound : faulty front → ⊥
  pub broken : faulty seen
