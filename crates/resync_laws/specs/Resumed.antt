-- Mapped sources whose fronts may be lost, and the reports of a whole and of its rest.
use Rattle.std.specs.Prelude.{◌≡◌, ℕ, List, [], ◌∷◌, ◌++◌, length, map, true, ◌==◌, if◌then◌else◌}
use Rattle.std.specs.Prelude.{Option, None, Some, is_none}
use Rattle.resync_laws.specs.Names.{Cell, Place, Placed, placed, Stream, FramesMode, PortReading, port_reading}
use Rattle.resync_laws.specs.Names.{cells_of, part, list_of, Mapped, IsLawful, runs_in, stop_in, report, rest_mode}
use Rattle.resync_laws.specs.Names.{IsRising, FollowsFrom, AllFrom, items_of, later, later_stream}
use Rattle.resync_laws.specs.FromPoints.{first_in, items_among, from_points}
use Rattle.resync_laws.specs.Moved.{later_reading, later_event}

-- A mapped source whose front may be lost: which units its bytes are, how these read in the whole and in the rest,
-- where the point is in what the rest reads as, and of which kind the source is.
pub record Resumed (K V : Type 0) : Type 0 where
  pub id : ℕ
  pub kind : K
  pub units : List Placed → List Placed
  pub whole : List Placed → Stream V
  pub rest : List Placed → Stream V
  pub point : Stream V → Option Place

-- these sources in the whole and in the rest
abbrev pub wholes : {K V : Type 0} → List (Resumed K V) → List (Mapped V)
wholes ps = map (λ p. record { id = p.id; stream = λ u. p.whole (p.units u) }) ps

abbrev pub rests : {K V : Type 0} → List (Resumed K V) → List (Mapped V)
rests ps = map (λ p. record { id = p.id; stream = λ u. p.rest (p.units u) }) ps

-- whole bytes, and no halves
abbrev pub AreBytes : List Placed → Type 0
AreBytes [] = Unit {0}
AreBytes (b ∷ u) = (b.place.half ≡ 0) × AreBytes u

-- What is asked of such a source: its readings are lawful, its units go with its bytes, and its rest follows the whole
-- from its point on, without a fault where the whole has none, with the same tail, and at any offsets.
pub record CanResume {K V : Type 0} (p : Resumed K V) : Type 0 where
  pub whole_lawful : IsLawful (λ u. p.whole (p.units u))
  pub rest_lawful : IsLawful (λ u. p.rest (p.units u))
  pub append : (u w : List Placed) → p.units (u ++ w) ≡ p.units u ++ p.units w
  pub rising : (u : List Placed) → AreBytes u → IsRising u → IsRising (p.units u)
  pub shifts : (c : ℕ) (u : List Placed) → p.units (map (λ b. later c b) u) ≡ map (λ b. later c b) (p.units u)
  pub follows : FollowsFrom p.point p.whole p.rest
  pub stays_sound : (u w : List Placed) → (p.whole (u ++ w)).fault ≡ None → (p.rest w).fault ≡ None
  pub tail : (u w : List Placed) → (p.whole (u ++ w)).fault ≡ None → (p.rest w).locked ≡ true →
      (p.rest w).held ≡ (p.whole (u ++ w)).held
  pub moves : (c : ℕ) (u : List Placed) → p.rest (map (λ b. later c b) u) ≡ later_stream c (p.rest u)

abbrev pub CanAll : {K V : Type 0} → List (Resumed K V) → Type 0
CanAll [] = Unit {0}
CanAll (p ∷ ps) = CanResume p × CanAll ps

-- before its point the rest has no item of the source
abbrev pub IsQuiet : {K V : Type 0} → Resumed K V → Type 0
IsQuiet p =
    (w : List Placed) → IsRising w → (p.rest w).fault ≡ None → AllFrom (p.point (p.rest w)) (items_of (p.rest w).given)

-- the source with this ID is such a one, or is not mapped
abbrev pub IsQuietAt : {K V : Type 0} → List (Resumed K V) → ℕ → Type 0
IsQuietAt [] x = Unit {0}
IsQuietAt (p ∷ ps) x = (x ≡ p.id → IsQuiet p) × IsQuietAt ps x

-- the first cell that has an ID, run by run
abbrev pub first_named : List (List Cell) → Option Place
first_named [] = None
first_named ([] ∷ runs) = first_named runs
first_named ((c ∷ run) ∷ runs) = if is_none c.id then first_named runs else Some (record { at = c.at; half = 0 })

-- it is the first of all cells that has one
abbrev pub PortPointLaw : Type 0
PortPointLaw = (mode : FramesMode) (u : List Placed) →
    first_named (runs_in (port_reading mode u)) ≡ first_in (cells_of (port_reading mode u))

-- the point of each source: that of a source which is not mapped is the port's
abbrev pub points_in : {K V : Type 0} → List (Resumed K V) → List (List Cell) → ℕ → Option Place
points_in [] runs x = first_named runs
points_in (p ∷ ps) runs x = if x == p.id then p.point (p.rest (p.units (list_of x runs))) else points_in ps runs x

-- what the port's bytes of a whole capture read as
abbrev pub port_of : FramesMode → List ℕ → PortReading
port_of mode bytes = port_reading mode (placed bytes)

-- Of a source that has no items before its point the rest's items are the whole's from the point on, and no others,
-- with each offset smaller by how many bytes were lost. So any fold over them is the same.
abbrev pub PartLaw : {K V : Type 0} → List (Resumed K V) → Type 0
PartLaw ps =
    (x : ℕ) → IsQuietAt ps x → (mode : FramesMode) (lost bytes : List ℕ) →
    stop_in (wholes ps) (port_of mode (lost ++ bytes)) ≡ None →
    (let points = points_in ps (runs_in (later_reading (length lost) (port_of (rest_mode mode) bytes))) in
    part (Some x) (items_among (map (λ e. later_event (length lost) e)
    (report (rests ps) (rest_mode mode) (placed bytes))))
    ≡ part (Some x) (from_points points (items_among (report (wholes ps) mode (placed (lost ++ bytes))))))
