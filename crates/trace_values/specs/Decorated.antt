-- Streams whose items are made of the items of another, in order, by a state that goes along.
-- Of an item and the state before it, `make` gives the new item, or none, and the state after it.
use Rattle.std.specs.Prelude.{List, [], ◌∷◌, Option, None, Some}
use Rattle.trace_values.specs.Placed.{Place}
use Rattle.trace_values.specs.Stream.{Said, Notice, Kept, Stream}

-- the new item at this place, where there is one, and then the others
abbrev pub kept_if : {W : Type 0} → Option W → Place → List (Said W × Place) → List (Said W × Place)
kept_if None p others = others
kept_if (Some w) p others = (Kept w, p) ∷ others

-- what is made of what a source gives: a new item has its item's place, and the lock's notice stays
abbrev pub decorate : {V W T : Type 0} → (T → V → Option W × T) → T → List (Said V × Place) → List (Said W × Place)
decorate make t [] = []
decorate make t ((Notice n, p) ∷ given) = (Notice n, p) ∷ decorate make t given
decorate make t ((Kept v, p) ∷ given) = kept_if (make t v).0 p (decorate make (make t v).1 given)

-- the state after all of it
abbrev pub carried : {V W T : Type 0} → (T → V → Option W × T) → T → List (Said V × Place) → T
carried make t [] = t
carried make t ((Notice n, p) ∷ given) = carried make t given
carried make t ((Kept v, p) ∷ given) = carried make (make t v).1 given

-- the stream with the new items, from this state on
abbrev pub decorated : {V W T : Type 0} → (T → V → Option W × T) → T → Stream V → Stream W
decorated make t s = record {
  given = decorate make t s.given;
  fault = s.fault;
  held = s.held;
  skipped = s.skipped;
  locked = s.locked;
}
