-- The events of a report from each source's point on.
use Rattle.std.specs.Prelude.{ℕ, List, [], ◌∷◌, if◌then◌else◌, Option, None, Some, is_none}
use Rattle.std.specs.List.{filter}
use Rattle.resync_laws.specs.Names.{Cell, Place, Event, place_of, is_item, is_from}

-- the place of the first cell that has an ID
abbrev pub first_in : List Cell → Option Place
first_in [] = None
first_in (c ∷ cells) = if is_none c.id then first_in cells else Some (record { at = c.at; half = 0 })

-- the point of a source; the port has none
abbrev pub point_at : (ℕ → Option Place) → Option ℕ → Option Place
point_at points None = None
point_at points (Some x) = points x

-- the events that are no notices, and the events from their sources' points on
abbrev pub items_among : {V : Type 0} → List (Event V) → List (Event V)
items_among es = filter (λ e. is_item e.what) es

abbrev pub from_points : {V : Type 0} → (ℕ → Option Place) → List (Event V) → List (Event V)
from_points points es = filter (λ e. is_from (point_at points e.source) (place_of e)) es
