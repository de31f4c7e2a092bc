-- Events of all sources, from each source's point on and without the notices.
use Rattle.std.specs.Prelude.{◌≡◌, ℕ, List, [], ◌∷◌, ◌++◌, Option}
use Rattle.std.specs.List.{filter}
use Rattle.resync_laws.specs.Names.{Place, What, is_item, is_from}

-- each source's events only grow
abbrev pub OnlyGrow : {X V : Type 0} → (ℕ → List X → List (What V × Place)) → Type 0
OnlyGrow {X} {V} events = (x : ℕ) (before : List X) (m : X) → (more : List (What V × Place)) × (events x (before ++ m ∷ []) ≡ events x before ++ more)

-- what one source gives that is no notice, and of it what is from a point on
abbrev pub items : {V : Type 0} → List (What V × Place) → List (What V × Place)
items es = filter (λ e. is_item e.0) es

abbrev pub told_from : {V : Type 0} → Option Place → List (What V × Place) → List (What V × Place)
told_from point es = filter (λ e. is_from point e.1) es

-- with each front of the later parts, from its point on each source's items in the rest are those in the whole
abbrev pub EachFollows : {X V : Type 0} → (ℕ → List X → List (What V × Place)) → (ℕ → List X → List (What V × Place)) → (ℕ → Option Place) → List X → List X → List X → Type 0
EachFollows {X} whole_events rest_events points whole_before rest_before later = (x : ℕ) (front after : List X) → later ≡ front ++ after →
    told_from (points x) (items (rest_events x (rest_before ++ front))) ≡ told_from (points x) (items (whole_events x (whole_before ++ front)))
