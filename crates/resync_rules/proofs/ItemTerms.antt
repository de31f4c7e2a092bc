-- A stream whose values are made into others in order, by a state that goes along; a value may give none.
use Rattle.std.specs.Prelude.{◌≡◌, List, [], ◌∷◌, Bool, true, false, if◌then◌else◌, Option, None, Some}
use Rattle.resync_rules.specs.Names.{Place, Said, Notice, Kept}

-- the place of the first item of some kind
abbrev pub first_item : {W : Type 0} → (W → Bool) → List (Said W × Place) → Option Place
first_item is_such [] = None
first_item is_such ((Notice n, p) ∷ xs) = first_item is_such xs
first_item is_such ((Kept w, p) ∷ xs) = if is_such w then Some p else first_item is_such xs

-- what a value gives, if it gives something, is of a kind or not
abbrev pub IsMarked : {W : Type 0} → (W → Bool) → Bool → Option W → Type 0
IsMarked marks true None = ⊥
IsMarked marks false None = Unit {0}
IsMarked marks b (Some w) = marks w ≡ b

-- all values that are given are such
abbrev pub AllFit : {V : Type 0} → (V → Type 0) → List (Said V × Place) → Type 0
AllFit fits [] = Unit {0}
AllFit fits ((Notice n, p) ∷ xs) = AllFit fits xs
AllFit fits ((Kept v, p) ∷ xs) = fits v × AllFit fits xs

-- Values that begin the state anew: what they and all values after them give does not depend on what came before. They
-- alone give items of this kind.
pub record BeginsAnew {V W T : Type 0} (step : T → V → Option W × T) (fits : V → Type 0) (resets : V → Bool) (marks : W → Bool) (Alike : T → T → Type 0) : Type 0 where
  pub marked : (t : T) (v : V) → fits v → IsMarked marks (resets v) (step t v).0
  pub anew : (s t : T) (v : V) → resets v ≡ true → ((step s v).0 ≡ (step t v).0) × Alike (step s v).1 (step t v).1
  pub on : (s t : T) (v : V) → Alike s t → ((step s v).0 ≡ (step t v).0) × Alike (step s v).1 (step t v).1
