-- Mapped sources of which no two have one ID.
use Rattle.std.specs.Prelude.{◌≢◌, ℕ, List, [], ◌∷◌}
use Rattle.source_events.specs.Report.{Mapped}

-- no source has this ID; no two of them have one ID
abbrev pub HasNot : {V : Type 0} → ℕ → List (Mapped V) → Type 0
HasNot x [] = Unit {0}
HasNot x (s ∷ ss) = (x ≢ s.id) × HasNot x ss

abbrev pub AreDistinct : {V : Type 0} → List (Mapped V) → Type 0
AreDistinct [] = Unit {0}
AreDistinct (s ∷ ss) = HasNot s.id ss × AreDistinct ss
