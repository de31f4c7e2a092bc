-- What holds of the source of an ID, by what a plan maps.
use Rattle.std.proofs.Common.{◌≡◌, ℕ, List, [], ◌∷◌, ◌++◌, map, refl, sym, ◌∙◌, ap, subst, append-nil, arith, Bool}
use Rattle.std.proofs.Common.{true, false, cond}
use Rattle.std.specs.Prelude.{Option, None, Some, ◌==◌, ◌||◌}
use Rattle.std.specs.List.{list_any}
use Rattle.std.proofs.lemmas.Bool.Decides.{nat_tests}
use Rattle.std.proofs.lemmas.Bool.{eqb-true}
use Rattle.resync_laws.specs.Names.{Cell, Place, Placed, Said, Notice, Kept, FramesMode, source_units, port_reading}
use Rattle.resync_laws.specs.Names.{cells_of, packets_in, StpItem, Version, items_in, Event, Packet, Plan, SourceKind}
use Rattle.resync_laws.specs.Names.{Itm, Stp, place_of, given_as, stream_of, kind_of, sources_by, Mapped, runs_in}
use Rattle.resync_laws.specs.Names.{list_of, point_in, is_from}
use Rattle.deformatter.proofs.PortReadingLaws.{frames_have_runs}
use Rattle.source_events.specs.declared.packet.Packet.TheVariants.{Itm as ItmPacket, Stp as StpPacket}
use Rattle.source_events.proofs.Least.{AreSound}
use Rattle.source_events.proofs.RunNumbers.{lists_are}
use Rattle.resync_laws.specs.Points.{first_version, point_by, point_of}
use Rattle.resync_laws.specs.FromPoints.{first_in, point_at, from_points}
use Rattle.resync_rules.proofs.ItemTerms.{first_item}
use Rattle.resync_laws.specs.Resumed.{points_in}
use Rattle.resync_laws.proofs.PlanTerms.{is_version, resumed_by, sources_of}
use Rattle.resync_laws.proofs.Mapped.{point_as}
use Rattle.resync_laws.proofs.Points.{port_point}

other_way : (a b : ℕ) → (a == b) ≡ (b == a)
other_way a b = grind (arith, nat_tests)

version_point : (g : List (Said StpItem × Place)) → first_item is_version (given_as StpPacket g) ≡ first_version g
version_point [] = refl
version_point ((Notice n, at) ∷ g) = version_point g
version_point ((Kept (Version v), at) ∷ g) = refl
version_point ((Kept item, at) ∷ g) = version_point g

-- the source's bytes, by runs and by cells
pub bytes_are : (mode : FramesMode) (u : List Placed) (x : ℕ) → list_of x (runs_in (port_reading mode u)) ≡ source_units x (cells_of (port_reading mode u))
bytes_are mode u x = lists_are x (port_reading mode u).frames (frames_have_runs mode u)

-- the point of a source
module _ (plan : Plan) (mode : FramesMode) (u : List Placed) (x : ℕ) where
  abbrev runs : List (List Cell)
  runs = runs_in (port_reading mode u)

  abbrev cells : List Cell
  cells = cells_of (port_reading mode u)

  abbrev at_kind : SourceKind → Option Place
  at_kind kind = point_by plan cells x (Some kind)

  one : (y : ℕ) (kind : SourceKind) → (let p = resumed_by plan (y, kind) in p.point (p.rest (p.units (list_of x runs)))) ≡ at_kind kind
  one y Itm = point_as ItmPacket (packets_in true (list_of x runs)).given ∙ ap (λ (l : List Placed). point_in (packets_in true l).given) (bytes_are mode u x)
  one y Stp = version_point (items_in plan.order true (list_of x runs)).given ∙ ap (λ (l : List Placed). first_version (items_in plan.order true l).given) (bytes_are mode u x)

  each : (kind : SourceKind) (ids : List ℕ) (more : List (ℕ × SourceKind)) →
      points_in (map (λ s. resumed_by plan s) (map (λ y. (y, kind)) ids ++ more)) runs x ≡ cond (list_any (λ y. y == x) ids) (at_kind kind) (points_in (map (λ s. resumed_by plan s) more) runs x)
  each kind [] more = refl
  each kind (y ∷ ids) more = by kind (one y kind) (each kind ids more) where
    both : (t v : Bool) (o p : Option Place) → cond t o (cond v o p) ≡ cond (t || v) o p
    both true v o p = refl
    both false v o p = refl

    steps : (kind : SourceKind) (own : Option Place) → own ≡ at_kind kind → (rest : Option Place) → rest ≡ cond (list_any (λ y. y == x) ids) (at_kind kind) (points_in (map (λ s. resumed_by plan s) more) runs x) →
        cond (x == y) own rest ≡ cond ((y == x) || list_any (λ y. y == x) ids) (at_kind kind) (points_in (map (λ s. resumed_by plan s) more) runs x)
    steps kind own e rest f =
        ap (λ (t : Bool). cond t own rest) (other_way x y) ∙ ap (λ (o : Option Place). cond (y == x) o rest) e ∙ ap (λ (o : Option Place). cond (y == x) (at_kind kind) o) f
        ∙ both (y == x) (list_any (λ y. y == x) ids) (at_kind kind) (points_in (map (λ s. resumed_by plan s) more) runs x)

    by : (kind : SourceKind) → (let p = resumed_by plan (y, kind) in p.point (p.rest (p.units (list_of x runs)))) ≡ at_kind kind →
        points_in (map (λ s. resumed_by plan s) (map (λ y. (y, kind)) ids ++ more)) runs x ≡ cond (list_any (λ y. y == x) ids) (at_kind kind) (points_in (map (λ s. resumed_by plan s) more) runs x) →
        points_in (map (λ s. resumed_by plan s) (map (λ y. (y, kind)) (y ∷ ids) ++ more)) runs x ≡ cond (list_any (λ y. y == x) (y ∷ ids)) (at_kind kind) (points_in (map (λ s. resumed_by plan s) more) runs x)
    by Itm e f = steps Itm _ e _ f
    by Stp e f = steps Stp _ e _ f

  pub point_is : points_in (sources_of plan) runs x ≡ point_of plan (port_reading mode u) x
  point_is =
      each Itm plan.itm (map (λ y. (y, Stp)) plan.stp)
      ∙ ap (λ (o : Option Place). cond (list_any (λ y. y == x) plan.itm) (at_kind Itm) o)
      (ap (λ (l : List (ℕ × SourceKind)). points_in (map (λ s. resumed_by plan s) l) runs x) (sym (append-nil (map (λ y. (y, Stp)) plan.stp))) ∙ each Stp plan.stp [] ∙ ap (λ (o : Option Place). cond (list_any (λ y. y == x) plan.stp) (at_kind Stp) o) (port_point mode u))
      ∙ both (list_any (λ y. y == x) plan.itm) (list_any (λ y. y == x) plan.stp) where
        both : (t v : Bool) → cond t (at_kind Itm) (cond v (at_kind Stp) (first_in cells)) ≡ point_by plan cells x (cond t (Some Itm) (cond v (Some Stp) None))
        both true v = refl
        both false true = refl
        both false false = refl

-- the same points choose the same events
pub same_points : {V : Type 0} (p q : ℕ → Option Place) → ((x : ℕ) → p x ≡ q x) → (es : List (Event V)) → from_points p es ≡ from_points q es
same_points p q h [] = refl
same_points {V} p q h (e ∷ es) =
    ap (λ (l : List (Event V)). cond (is_from (point_at p e.source) (place_of e)) (e ∷ l) l) (same_points p q h es)
    ∙ ap (λ (o : Option Place). cond (is_from o (place_of e)) (e ∷ from_points q es) (from_points q es)) (at e.source) where
      at : (o : Option ℕ) → point_at p o ≡ point_at q o
      at None = refl
      at (Some x) = h x

-- a mapped source has no fault where none has
module _ (plan : Plan) (runs : List (List Cell)) (x : ℕ) where
  abbrev ones : List (ℕ × SourceKind) → List (Mapped Packet)
  ones ids = map (λ s. record { id = s.0; stream = stream_of plan s.1 }) ids

  sound_one : (kind : SourceKind) (ids : List ℕ) (more : List (ℕ × SourceKind)) → AreSound (ones (map (λ y. (y, kind)) ids ++ more)) runs → list_any (λ y. y == x) ids ≡ true → (stream_of plan kind (list_of x runs)).fault ≡ None
  sound_one kind [] more a e = cc
  sound_one kind (y ∷ ids) more a e = by (y == x) refl e (λ f. sound_one kind ids more a.1 f) where
    by : (t : Bool) → (y == x) ≡ t → (t || list_any (λ y. y == x) ids) ≡ true → (list_any (λ y. y == x) ids ≡ true → (stream_of plan kind (list_of x runs)).fault ≡ None) → (stream_of plan kind (list_of x runs)).fault ≡ None
    by true k f more_of = subst (λ (z : ℕ). (stream_of plan kind (list_of z runs)).fault ≡ None) (eqb-true y x k) a.0
    by false k f more_of = more_of f

  skip : (kind : SourceKind) (ids : List ℕ) (more : List (ℕ × SourceKind)) → AreSound (ones (map (λ y. (y, kind)) ids ++ more)) runs → AreSound (ones more) runs
  skip kind [] more a = a
  skip kind (y ∷ ids) more a = skip kind ids more a.1

  pub sound_at : AreSound (sources_by plan) runs → (kind : SourceKind) → kind_of plan x ≡ Some kind → (stream_of plan kind (list_of x runs)).fault ≡ None
  sound_at a kind e = by (list_any (λ y. y == x) plan.itm) refl (list_any (λ y. y == x) plan.stp) refl e where
    by : (t : Bool) → list_any (λ y. y == x) plan.itm ≡ t → (v : Bool) → list_any (λ y. y == x) plan.stp ≡ v → cond t (Some Itm) (cond v (Some Stp) None) ≡ Some kind → (stream_of plan kind (list_of x runs)).fault ≡ None
    by true f v g k = subst (λ (z : SourceKind). (stream_of plan z (list_of x runs)).fault ≡ None) (let q : Itm ≡ kind = cc in q) (sound_one Itm plan.itm (map (λ y. (y, Stp)) plan.stp) a f)
    by false f true g k =
        subst (λ (z : SourceKind). (stream_of plan z (list_of x runs)).fault ≡ None) (let q : Stp ≡ kind = cc in q)
        (sound_one Stp plan.stp [] (subst (λ (l : List (ℕ × SourceKind)). AreSound (ones l) runs) (sym (append-nil (map (λ y. (y, Stp)) plan.stp))) (skip Itm plan.itm (map (λ y. (y, Stp)) plan.stp) a)) g)
    by false f false g k = cc
