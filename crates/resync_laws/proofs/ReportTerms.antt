-- The report of the rest of a capture, against the whole's, for any sources that can resume.
use Rattle.std.specs.Prelude.{◌≡◌, ℕ, List, [], ◌∷◌, ◌++◌, length, map, true, None}
use Rattle.resync_laws.specs.Names.{Cell, Placed, placed, placed_from, FramesMode, port_reading, Event, list_of}
use Rattle.resync_laws.specs.Names.{runs_in, stop_in, report, IsPortRest, rest_mode}
use Rattle.resync_laws.proofs.RunTerms.{RunsRest}
use Rattle.resync_laws.specs.Moved.{later_reading, later_event}
use Rattle.resync_laws.specs.FromPoints.{items_among, from_points}
use Rattle.resync_laws.specs.Resumed.{Resumed, wholes, rests, IsQuiet, points_in, port_of}

abbrev pub AreQuiet : {K V : Type 0} → List (Resumed K V) → Type 0
AreQuiet [] = Unit {0}
AreQuiet (p ∷ ps) = IsQuiet p × AreQuiet ps

-- and what each kind's rest reads as, in the kind's own words
abbrev pub AllRead : {K V : Type 0} → (K → List Placed → List Placed → Type 0) → List (Resumed K V) → Type 0
AllRead reads [] = Unit {0}
AllRead reads (p ∷ ps) = ((u w : List Placed) → (p.whole (u ++ w)).fault ≡ None → reads p.kind u w) × AllRead reads ps

-- A mapped source: its bytes in the rest are the last of its bytes in the whole, their units read as its kind has it,
-- and once it has locked as many units are unfinished as in the whole.
pub record SourceRest {K V : Type 0} (reads : K → List Placed → List Placed → Type 0) (p : Resumed K V) (whole rest : List (List Cell)) : Type 0 where
  pub early : List Placed
  pub bytes : list_of p.id whole ≡ early ++ list_of p.id rest
  pub word : reads p.kind (p.units early) (p.units (list_of p.id rest))
  pub tail : (p.rest (p.units (list_of p.id rest))).locked ≡ true → (p.rest (p.units (list_of p.id rest))).held ≡ (p.whole (p.units (list_of p.id whole))).held

abbrev pub AllRest : {K V : Type 0} → (K → List Placed → List Placed → Type 0) → List (Resumed K V) → List (List Cell) → List (List Cell) → Type 0
AllRest reads [] whole rest = Unit {0}
AllRest reads (p ∷ ps) whole rest = SourceRest reads p whole rest × AllRest reads ps whole rest

-- The report of the rest w follows that of the whole u ++ w, in this mode.
pub record FollowsReport {K V : Type 0} (reads : K → List Placed → List Placed → Type 0) (ps : List (Resumed K V)) (mode : FramesMode) (u w : List Placed) : Type 0 where
  pub port : IsPortRest mode u w
  pub runs : RunsRest (runs_in (port_reading mode (u ++ w))) (runs_in (port_reading (rest_mode mode) w))
  pub sources : AllRest reads ps (runs_in (port_reading mode (u ++ w))) (runs_in (port_reading (rest_mode mode) w))
  pub events : from_points (points_in ps (runs_in (port_reading (rest_mode mode) w))) (items_among (report (rests ps) (rest_mode mode) w))
      ≡ from_points (points_in ps (runs_in (port_reading (rest_mode mode) w))) (items_among (report (wholes ps) mode (u ++ w)))
  pub sound : stop_in (rests ps) (port_reading (rest_mode mode) w) ≡ None
  pub tail : (port_reading (rest_mode mode) w).locked ≡ true → (port_reading (rest_mode mode) w).tail ≡ (port_reading mode (u ++ w)).tail

-- The report of these bytes follows that of the whole capture, which has the lost bytes before them, with each offset taken greater
-- by how many were lost; es are its events, and it has no fault.
pub record FollowsAt {K V : Type 0} (reads : K → List Placed → List Placed → Type 0) (ps : List (Resumed K V)) (mode : FramesMode) (lost bytes : List ℕ) (es : List (Event V)) : Type 0 where
  pub follows : FollowsReport reads ps mode (placed lost) (placed_from (length lost) bytes)
  pub reading : port_reading (rest_mode mode) (placed_from (length lost) bytes) ≡ later_reading (length lost) (port_of (rest_mode mode) bytes)
  pub events : report (rests ps) (rest_mode mode) (placed_from (length lost) bytes) ≡ map (λ e. later_event (length lost) e) es
  pub items : from_points (points_in ps (runs_in (later_reading (length lost) (port_of (rest_mode mode) bytes)))) (items_among (map (λ e. later_event (length lost) e) es))
      ≡ from_points (points_in ps (runs_in (later_reading (length lost) (port_of (rest_mode mode) bytes)))) (items_among (report (wholes ps) mode (placed (lost ++ bytes))))
  pub sound : stop_in (rests ps) (port_of (rest_mode mode) bytes) ≡ None

-- For every front that may have been lost: where the whole capture reads without a fault, the report of the rest follows it.
abbrev pub RestLaw : {K V : Type 0} → (K → List Placed → List Placed → Type 0) → List (Resumed K V) → Type 0
RestLaw reads ps = (mode : FramesMode) (lost bytes : List ℕ) → stop_in (wholes ps) (port_of mode (lost ++ bytes)) ≡ None →
    FollowsAt reads ps mode lost bytes (report (rests ps) (rest_mode mode) (placed bytes))
