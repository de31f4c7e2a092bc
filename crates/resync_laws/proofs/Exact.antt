-- Where no source has items before its point, the rest's items are the whole's from the points on.
use Rattle.std.proofs.Common.{◌≡◌, ℕ, ◌+◌, ◌*◌, ◌≤◌, List, [], ◌∷◌, ◌++◌, length, refl, sym, ◌∙◌, ap, subst, inl, inr}
use Rattle.std.proofs.Common.{arith, Bool, true, false, cond, Option, None, Some}
use Rattle.std.specs.Prelude.{◌==◌, is_none, nat_le}
use Rattle.std.proofs.lemmas.Bool.Decides.{nat_tests}
use Rattle.resync_laws.specs.Names.{Cell, Place, Placed, placed_from, Said, is_source, PortReading}
use Rattle.resync_laws.specs.Names.{port_reading, Event, What, id_of, list_of, end_of, part, AllIn, IsAtMost, start_of}
use Rattle.resync_laws.specs.Names.{lifted, raw_events, raws, events, lesser, of_source, least_fault, runs_in, stop_in}
use Rattle.resync_laws.specs.Names.{report, items_of, key, is_from, is_item, AllFrom, rest_mode, FramesMode}
use Rattle.deformatter.proofs.RisingLaws.{reading_rises}
use Rattle.source_events.proofs.Least.{AreSound}
use Rattle.source_events.proofs.Family.{all_raw}
use Rattle.source_events.proofs.Merges.{same_or_not, test_same, test_other}
use Rattle.source_events.proofs.Running.{end_within}
use Rattle.source_events.proofs.Settling.{all_sound}
use Rattle.source_events.proofs.Growth.{no_stop}
use Rattle.source_events.proofs.Placing.{RunsBetween, frames_between}
use Rattle.resync_laws.proofs.EventTerms.{items}
use Rattle.resync_laws.specs.FromPoints.{items_among, from_points}
use Rattle.resync_laws.specs.Moved.{later_reading}
use Rattle.resync_laws.specs.Resumed.{Resumed, rests, CanAll, IsQuietAt, PartLaw, first_named, points_in, port_of}
use Rattle.resync_laws.proofs.ReportTerms.{AllRead}
use Rattle.resync_laws.proofs.Listing.{lifted_items, grow, list_rises, list_bytes}
use Rattle.resync_laws.proofs.Merging.{part_from_points}
use Rattle.resync_laws.proofs.Reporting.{rest_laws, report_items}
use Rattle.resync_laws.proofs.RestReport.{rest_law, from_start}

lifted_all : {V : Type 0} (o : Option Place) (xs : List (Said V × Place)) → AllFrom o xs → AllFrom o (lifted xs)
lifted_all o [] h = tt
lifted_all o (x ∷ xs) h = (h.0, lifted_all o xs h.1)

-- all of these are from an offset on
abbrev FromAt : {W : Type 0} → ℕ → List (W × Place) → Type 0
FromAt n [] = Unit {0}
FromAt n (e ∷ es) = (n ≤ e.1.at) × FromAt n es

from_in : {W : Type 0} (n hi : ℕ) (p : Place) (es : List (W × Place)) → AllIn p hi es → n ≤ p.at → FromAt n es
from_in n hi p [] a l = tt
from_in n hi p (e ∷ es) a l = let k : n ≤ e.1.at = at_most p e.1 a.0 l in (k, from_in n hi e.1 es a.2 k) where
  at_most : (p q : Place) → IsAtMost p q → n ≤ p.at → n ≤ q.at
  at_most p q (inl m) l = omega (arith, m)
  at_most p q (inr m) l = (let d = m.0 in omega (arith, d))

from_weaker : {W : Type 0} (n m : ℕ) (es : List (W × Place)) → m ≤ n → FromAt n es → FromAt m es
from_weaker n m [] l h = tt
from_weaker n m (e ∷ es) l h = ((let k = h.0 in omega arith), from_weaker n m es l h.1)

from_both : {W : Type 0} (n : ℕ) (xs ys : List (W × Place)) → FromAt n xs → FromAt n ys → FromAt n (xs ++ ys)
from_both n [] ys h k = k
from_both n (x ∷ xs) ys h k = (h.0, from_both n xs ys h.1 k)

raws_from : (V : Type 0) (x : ℕ) (runs : List (List Cell)) (n k : ℕ) → RunsBetween n k runs → FromAt n (raws {V = V} x runs)
raws_from V x [] n k b = tt
raws_from V x (run ∷ runs) n k b = by (is_source x (id_of run)) (from_weaker (end_of run) n (raws x runs) (end_within n run b.0) (raws_from V x runs (end_of run) k b.1)) where
  by : (t : Bool) → FromAt n (raws {V = V} x runs) → FromAt n (cond t (raw_events {V = V} x run) [] ++ raws x runs)
  by true h = from_both n (raw_events x run) (raws x runs) (from_in n (end_of run) (start_of n) (raw_events x run) (all_raw V x n run b.0) (let q : n ≤ n = omega arith in q)) h
  by false h = h

over : (n : ℕ) (q : Place) → n ≤ q.at → is_from (Some (record { at = n; half = 0 })) q ≡ true
over n q l = by (key (record { at = n; half = 0 })) (key q) (let k : 2 * n + 0 ≤ 2 * q.at + q.half = omega arith in k) where
  by : (a b : ℕ) → a ≤ b → nat_le a b ≡ true
  by a b h = grind (arith, nat_tests)

at_all : {V : Type 0} (n : ℕ) (es : List (What V × Place)) → FromAt n es → AllFrom (Some (record { at = n; half = 0 })) (items es)
at_all n [] h = tt
at_all n (e ∷ es) h = by (is_item e.0) (at_all n es h.1) where
  by : (b : Bool) → AllFrom (Some (record { at = n; half = 0 })) (items es) → AllFrom (Some (record { at = n; half = 0 })) (cond b (e ∷ items es) (items es))
  by true k = (over n e.1 h.0, k)
  by false k = k

-- a source that is not mapped has nothing before the port's point
raws_all : (V : Type 0) (x : ℕ) (runs : List (List Cell)) (n k : ℕ) → RunsBetween n k runs → AllFrom (first_named runs) (items (raws {V = V} x runs))
raws_all V x [] n k b = tt
raws_all V x ([] ∷ runs) n k b = absurd b.0
raws_all V x ((c ∷ run) ∷ runs) n k b = by c.id refl (raws_all V x runs (end_of (c ∷ run)) k b.1) where
  by : (o : Option ℕ) → c.id ≡ o → AllFrom (first_named runs) (items (raws {V = V} x runs)) → AllFrom (first_named ((c ∷ run) ∷ runs)) (items (raws {V = V} x ((c ∷ run) ∷ runs)))
  by None e h = subst (λ (o : Option ℕ). AllFrom (cond (is_none o) (first_named runs) (Some (record { at = c.at; half = 0 }))) (items (cond (is_source x o) (raw_events {V = V} x (c ∷ run)) [] ++ raws x runs))) (sym e) h
  by (Some y) e h =
      subst (λ (o : Option ℕ). AllFrom (cond (is_none o) (first_named runs) (Some (record { at = c.at; half = 0 }))) (items (raws {V = V} x ((c ∷ run) ∷ runs)))) (sym e)
      (at_all c.at (raws {V = V} x ((c ∷ run) ∷ runs)) (raws_from V x ((c ∷ run) ∷ runs) c.at k (((let q : c.at ≤ c.at = omega arith in q), b.0.1), b.1)))

module _ {V : Type 0} where
  sources_all : {K : Type 0} (ps : List (Resumed K V)) → CanAll ps → (x : ℕ) → IsQuietAt ps x → (runs : List (List Cell)) (hi : ℕ) → RunsBetween 0 hi runs → AreSound (rests ps) runs → AllFrom (points_in ps runs x) (items (events (rests ps) x runs))
  sources_all [] can x quiet runs hi b sound = raws_all V x runs 0 hi b
  sources_all (p ∷ ps) can x quiet runs hi b sound = elim (same_or_not x p.id) [
    | inl i ↦ by true (test_same x p.id i) (own i)
    | inr n ↦ by false (test_other x p.id n) (sources_all ps can.1 x quiet.1 runs hi b sound.1)
  ] where
    by : (t : Bool) → (x == p.id) ≡ t → AllFrom (cond t (p.point (p.rest (p.units (list_of x runs)))) (points_in ps runs x)) (items (cond t (lifted (p.rest (p.units (list_of x runs))).given) (events (rests ps) x runs))) →
        AllFrom (points_in (p ∷ ps) runs x) (items (events (rests (p ∷ ps)) x runs))
    by t e h = subst (λ (z : Bool). AllFrom (cond z (p.point (p.rest (p.units (list_of x runs)))) (points_in ps runs x)) (items (cond z (lifted (p.rest (p.units (list_of x runs))).given) (events (rests ps) x runs)))) (sym e) h

    own : x ≡ p.id → AllFrom (p.point (p.rest (p.units (list_of x runs)))) (items (lifted (p.rest (p.units (list_of x runs))).given))
    own i =
        subst (λ (l : List (What V × Place)). AllFrom (p.point (p.rest (p.units (list_of x runs)))) l) (sym (lifted_items (p.rest (p.units (list_of x runs))).given))
        (lifted_all (p.point (p.rest (p.units (list_of x runs)))) (items_of (p.rest (p.units (list_of x runs))).given)
        (quiet.0 i (p.units (list_of x runs)) (can.0.rising (list_of x runs) (list_bytes x runs) (2 * hi, list_rises x runs 0 hi b)) (ap (λ (z : ℕ). (p.rest (p.units (list_of z runs))).fault) i ∙ sound.0)))

  -- of a reading without a fault
  sound_in : {K : Type 0} (ps : List (Resumed K V)) (r : PortReading) (hi : ℕ) → RunsBetween 0 hi (runs_in r) → stop_in (rests ps) r ≡ None → AreSound (rests ps) (runs_in r)
  sound_in ps r hi b e =
      let none : r.fault ≡ None = no_stop (rests ps) r e in
      let least : least_fault (rests ps) (runs_in r) ≡ None = sym (ap (λ (o : Option _). lesser (of_source None o) (least_fault (rests ps) (runs_in r))) none) ∙ e in
      all_sound (runs_in r) [] hi b tt (rests ps) least

  part_items : {K : Type 0} (ps : List (Resumed K V)) → CanAll ps → (x : ℕ) → IsQuietAt ps x → (mode : FramesMode) (u : List Placed) (hi : ℕ) → RunsBetween 0 hi (runs_in (port_reading mode u)) → stop_in (rests ps) (port_reading mode u) ≡ None →
      part (Some x) (from_points (points_in ps (runs_in (port_reading mode u))) (items_among (report (rests ps) mode u))) ≡ part (Some x) (items_among (report (rests ps) mode u))
  part_items ps can x quiet mode u hi b e =
      let r = port_reading mode u in
      let sound = sound_in ps r hi b e in
      ap (λ (l : List (Event V)). part (Some x) (from_points (points_in ps (runs_in r)) l)) (report_items (rests ps) mode u e)
      ∙ part_from_points (points_in ps (runs_in r)) id_of (events (rests ps)) (grow (rests ps) (rest_laws ps can)) x (runs_in r) [] (sources_all ps can x quiet (runs_in r) hi b sound)
      ∙ ap (part (Some x)) (sym (report_items (rests ps) mode u e))

  no_words : {K : Type 0} (ps : List (Resumed K V)) → AllRead (λ k u w. Unit {0}) ps
  no_words [] = tt
  no_words (p ∷ ps) = ((λ u w e. tt), no_words ps)

  pub part_law : {K : Type 0} (ps : List (Resumed K V)) → CanAll ps → PartLaw ps
  part_law ps can x quiet mode lost bytes e =
      let f = rest_law (λ k u w. Unit {0}) ps can (no_words ps) mode lost bytes e in
      let c = length lost in
      let w = placed_from c bytes in
      let b = frames_between (port_reading (rest_mode mode) w).frames 0 (c + length bytes) (reading_rises (rest_mode mode) w 0 (c + length bytes) (from_start bytes c)) in
      let all = part_items ps can x quiet (rest_mode mode) w (c + length bytes) b f.follows.sound in
      let points = points_in ps (runs_in (later_reading c (port_of (rest_mode mode) bytes))) in
      let same : points ≡ points_in ps (runs_in (port_reading (rest_mode mode) w)) = ap (λ (q : PortReading). points_in ps (runs_in q)) (sym f.reading) in
      ap (λ (l : List (Event V)). part (Some x) (items_among l)) (sym f.events) ∙ sym all ∙ ap (λ (q : ℕ → Option Place). part (Some x) (from_points q (items_among (report (rests ps) (rest_mode mode) w)))) (sym same)
      ∙ ap (λ (l : List (Event V)). part (Some x) (from_points points (items_among l))) f.events ∙ ap (part (Some x)) f.items
