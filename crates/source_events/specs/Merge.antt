-- Events of the port and of all sources in one list: part by part of a capture, what its source or the port says more.
use Rattle.std.specs.Prelude.{◌≡◌, ℕ, ◌<◌, ◌≤◌, List, [], ◌∷◌, ◌++◌, Bool, true, false, Option, None, Some, length, map}
use Rattle.std.specs.Prelude.{drop}
use Rattle.std.specs.Prelude.{filter, ◌==◌, ◌&&◌, ◌||◌, nat_lt, ◌⊎◌}
use Rattle.trace_values.specs.Placed.{Place}
use Rattle.frame_grammar.specs.Reading.{is_source}
use Rattle.source_events.specs.declared.event.Event.{Event}
use Rattle.source_events.specs.declared.event.What.{What}

-- what a source, or the port, gives at these places, as events
abbrev pub told : {V : Type 0} → Option ℕ → List (What V × Place) → List (Event V)
told source given = map (λ e. record { at = e.1.at; half = e.1.half; source = source; what = e.0 }) given

abbrev pub place_of : {V : Type 0} → Event V → Place
place_of e = record { at = e.at; half = e.half }

-- what one more part adds: what its source, or the port, says more with it
abbrev pub grown : {X V : Type 0} → (Option ℕ → List X → List (What V × Place)) → List X → X → Option ℕ → List (Event V)
grown said before m x = told x (drop (length (said x before)) (said x (before ++ m ∷ [])))

-- part by part, after others
abbrev pub merged_from : {X V : Type 0} → (X → Option ℕ) → (Option ℕ → List X → List (What V × Place)) → List X →
    List X → List (Event V)
merged_from whose said before [] = []
merged_from whose said before (m ∷ ms) = grown said before m (whose m) ++ merged_from whose said (before ++ m ∷ []) ms

-- of parts in which the port says nothing
abbrev pub of_sources : {X W : Type 0} → (ℕ → List X → List W) → Option ℕ → List X → List W
of_sources events None ms = []
of_sources events (Some x) ms = events x ms

-- whether an event is of a source, or of the port
abbrev pub is_of : Option ℕ → Option ℕ → Bool
is_of None None = true
is_of None (Some x) = false
is_of (Some x) other = is_source x other

-- the events of one source, or of the port
abbrev pub part : {V : Type 0} → Option ℕ → List (Event V) → List (Event V)
part source es = filter (λ e. is_of source e.source) es

-- places in order
abbrev pub IsAtMost : Place → Place → Type 0
IsAtMost p q = (p.at < q.at) ⊎ ((p.at ≡ q.at) × (p.half ≤ q.half))

abbrev pub start_of : ℕ → Place
start_of at = record { at = at; half = 0 }

abbrev pub SortedFrom : {V : Type 0} → Place → List (Event V) → Type 0
SortedFrom p [] = Unit {0}
SortedFrom p (e ∷ es) = IsAtMost p (place_of e) × SortedFrom (place_of e) es

abbrev pub IsSorted : {V : Type 0} → List (Event V) → Type 0
IsSorted es = SortedFrom (start_of 0) es

-- parts in order, from an offset on: each lies from the end of the one before it on
abbrev pub InOrder : {X : Type 0} → (ℕ → X → Type 0) → (X → ℕ) → ℕ → List X → Type 0
InOrder Lies end n [] = Unit {0}
InOrder Lies end n (m ∷ ms) = Lies n m × InOrder Lies end (end m) ms

-- parts from one offset on, up to another
abbrev pub Between : {X : Type 0} → (ℕ → X → Type 0) → (X → ℕ) → ℕ → ℕ → List X → Type 0
Between Lies end n k [] = n ≤ k
Between Lies end n k (m ∷ ms) = Lies n m × Between Lies end (end m) k ms

-- places in order, from this one on, and below an offset
abbrev pub AllIn : {W : Type 0} → Place → ℕ → List (W × Place) → Type 0
AllIn p n [] = Unit {0}
AllIn p n (x ∷ xs) = IsAtMost p x.1 × (x.1.at < n) × AllIn x.1 n xs

-- The list is sorted by place, and its part of the port, and of each source, is what that one says.
pub record IsMerged {V : Type 0} (said : Option ℕ → List (What V × Place)) (es : List (Event V)) : Type 0 where
  pub sorted : IsSorted es
  pub parts : (x : Option ℕ) → part x es ≡ told x (said x)

-- an event before a place
abbrev pub is_before : {V : Type 0} → Place → Event V → Bool
is_before p e = nat_lt e.at p.at || (e.at == p.at && nat_lt e.half p.half)

-- the events before a fault
abbrev pub cut : {V F : Type 0} → Option (Place × F) → List (Event V) → List (Event V)
cut None es = es
cut (Some f) es = filter (λ e. is_before f.0 e) es

-- all events are from an offset on, or below it
abbrev pub From : {V : Type 0} → ℕ → List (Event V) → Type 0
From n [] = Unit {0}
From n (e ∷ es) = (n ≤ e.at) × From n es

abbrev pub Below : {V : Type 0} → ℕ → List (Event V) → Type 0
Below n [] = Unit {0}
Below n (e ∷ es) = (e.at < n) × Below n es
