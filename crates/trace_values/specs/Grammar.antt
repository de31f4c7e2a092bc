-- Grammars: which lists of units spell which values.
use Rattle.std.specs.Prelude.{◌≡◌, ℕ, List, ◌++◌}
use Rattle.trace_values.specs.Placed.{Placed, units_of}

-- One list spells at most one value, and no spelling begins another.
pub record PrefixLaw {U V : Type 0} (Spells : V → List U → Type 0) : Type 0 where
  pub same_value : (v w : V) (a : List U) → Spells v a → Spells w a → v ≡ w
  pub same_spelling : (v w : V) (a b x y : List U) → Spells v a → Spells w b → a ++ x ≡ b ++ y → a ≡ b

-- the units are the front of a spelling
abbrev pub IsFront : {U V : Type 0} → (V → List U → Type 0) → List U → Type 0
IsFront {U} {V} Spells r = (v : V) × (w : List U) × Spells v (r ++ w)

-- where spellings look at the units alone, and not at their places
abbrev pub InUnits : {V : Type 0} → (V → List ℕ → Type 0) → V → List Placed → Type 0
InUnits Spells v r = Spells v (units_of r)
