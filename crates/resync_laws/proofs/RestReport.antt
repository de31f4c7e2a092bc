-- The report of what is left of a capture follows the whole's, with each offset taken greater by how many bytes were lost.
use Rattle.std.proofs.Common.{◌≡◌, ℕ, ◌+◌, ◌≤◌, List, [], ◌∷◌, ◌++◌, length, map, refl, sym, ◌∙◌, ap, subst, arith}
use Rattle.std.proofs.Common.{inl, inr, true, false, Option, None, Some}
use Rattle.resync_laws.specs.Names.{Cell, Reason, Place, Placed, placed, placed_from, Stream, PortItem, PortStream}
use Rattle.resync_laws.specs.Names.{port_stream, FramesMode, Hunt, Aligned, Bare, PortReading, port_reading, BytesRise}
use Rattle.resync_laws.specs.Names.{Event, list_of, What, told, lesser, of_source, least_fault, all_events, port_events}
use Rattle.resync_laws.specs.Names.{lock_at, runs_in, stop_in, report, Hunting, IsRest, rest_mode, items_of, point_of}
use Rattle.resync_laws.specs.Names.{from_point, Follows, FollowsFrom, later_place, later_fault, later}
use Rattle.trace_values.proofs.Placing.{placed_append}
use Rattle.std.proofs.lemmas.List.{map-append}
use Rattle.deformatter.proofs.RisingLaws.{placed_rise}
use Rattle.source_events.proofs.Settling.{lesser_none, source_none}
use Rattle.source_events.proofs.Growth.{no_stop}
use Rattle.resync_laws.specs.FromPoints.{items_among, from_points}
use Rattle.resync_laws.specs.Moved.{later_run, later_reading, later_event}
use Rattle.resync_laws.proofs.MovedTerms.{later_item}
use Rattle.resync_laws.specs.Resumed.{Resumed, wholes, rests, CanAll, points_in, port_of}
use Rattle.resync_laws.proofs.ReportTerms.{AllRead, RestLaw}
use Rattle.resync_rules.proofs.Following.{from_twice}
use Rattle.resync_laws.proofs.MovedPort.{port_later}
use Rattle.resync_laws.proofs.MovedReport.{placed_later, reading_later, all_later, list_later, report_later}
use Rattle.resync_laws.proofs.Reporting.{sound_report, report_follows}

-- what the rest of a source reads as has no fault, and its tail
pub rest_fault : {P : Type 0} (h : Hunting P) (u w : List Placed) → (h.whole (u ++ w)).fault ≡ None → IsRest h u w → (h.rest w).fault ≡ None
rest_fault {P} h u w e r = elim r [
  | inl m ↦ ap (λ (s : Stream P). s.fault) m.1
  | inr m ↦
      let l = m.1 in
      let z = l.first.is_sync.more in
      let parts = l.first.is_sync.parts in
      ap (λ (x : List Placed). (h.rest x).fault) parts ∙ ap (λ (s : Stream P). s.fault) (l.rest_on z) ∙ ap (λ (x : List Placed). (h.whole (u ++ x)).fault) (sym parts) ∙ e
]

pub rest_tail : {P : Type 0} (h : Hunting P) (u w : List Placed) → IsRest h u w → (h.rest w).locked ≡ true → (h.rest w).held ≡ (h.whole (u ++ w)).held
rest_tail {P} h u w r t = elim r [
  | inl m ↦ absurd (let k : false ≡ true = sym (ap (λ (s : Stream P). s.locked) m.1) ∙ t in cc)
  | inr m ↦
      let l = m.1 in
      let z = l.first.is_sync.more in
      let parts = l.first.is_sync.parts in
      ap (λ (x : List Placed). (h.rest x).held) parts ∙ ap (λ (s : Stream P). s.held) (l.rest_on z) ∙ ap (λ (x : List Placed). (h.whole (u ++ x)).held) (sym parts)
]

fault_none : (c : ℕ) (o : Option (Place × Reason)) → later_fault c o ≡ None → o ≡ None
fault_none c None e = refl
fault_none c (Some f) e = cc

module _ {V : Type 0} where
  least_later : (c : ℕ) {K : Type 0} (ps : List (Resumed K V)) → CanAll ps → (runs : List (List Cell)) → least_fault (rests ps) (map (λ run. later_run c run) runs) ≡ None → least_fault (rests ps) runs ≡ None
  least_later c [] can runs e = refl
  least_later c (p ∷ ps) can runs e =
      let moved = map (λ (run : List Cell). later_run c run) runs in
      let k = lesser_none (of_source (Some p.id) (p.rest (p.units (list_of p.id moved))).fault) (least_fault (rests ps) moved) e in
      let own : (p.rest (p.units (list_of p.id runs))).fault ≡ None =
      fault_none c (p.rest (p.units (list_of p.id runs))).fault (sym (ap (λ (l : List Placed). (p.rest l).fault) (ap p.units (list_later c p.id runs) ∙ can.0.shifts c (list_of p.id runs)) ∙ ap (λ (s : Stream V). s.fault) (can.0.moves c (p.units (list_of p.id runs)))) ∙ source_none (Some p.id) (p.rest (p.units (list_of p.id moved))).fault k.0) in
      ap (λ (o : Option (Place × Reason)). lesser (of_source (Some p.id) o) (least_fault (rests ps) runs)) own ∙ least_later c ps can.1 runs k.1

  stop_later : (c : ℕ) {K : Type 0} (ps : List (Resumed K V)) → CanAll ps → (r : PortReading) → stop_in (rests ps) (later_reading c r) ≡ None → stop_in (rests ps) r ≡ None
  stop_later c ps can r e =
      let none : later_fault c r.fault ≡ None = no_stop (rests ps) (later_reading c r) e in
      let least : least_fault (rests ps) (runs_in (later_reading c r)) ≡ None = sym (ap (λ (o : Option (Place × Reason)). lesser (of_source None o) (least_fault (rests ps) (runs_in (later_reading c r)))) none) ∙ e in
      ap (λ (o : Option (Place × Reason)). lesser (of_source None o) (least_fault (rests ps) (runs_in r))) (fault_none c r.fault none)
      ∙ least_later c ps can (runs_in r) (ap (least_fault (rests ps)) (sym (all_later c r.frames)) ∙ least)

  -- the notice of the port's lock
  lock_later : (c n : ℕ) (l : List (PortItem × Place)) → lock_at {V = V} n (map (λ x. (later_item c x.0, later_place c x.1)) l) ≡ map (λ e. (e.0, later_place c e.1)) (lock_at n l)
  lock_later c n [] = refl
  lock_later c n (x ∷ l) = refl

  port_events_later : (c : ℕ) (mode : FramesMode) (u : List Placed) → port_events {V = V} mode (map (λ b. later c b) u) ≡ map (λ e. (e.0, later_place c e.1)) (port_events mode u)
  port_events_later c Aligned u = refl
  port_events_later c Bare u = refl
  port_events_later c Hunt u = ap (λ (s : PortStream). lock_at s.skipped s.items) (port_later c true u) ∙ lock_later c (port_stream true u).skipped (port_stream true u).items

  told_later : (c : ℕ) (x : Option ℕ) (es : List (What V × Place)) → told x (map (λ e. (e.0, later_place c e.1)) es) ≡ map (λ e. later_event c e) (told x es)
  told_later c x [] = refl
  told_later c x (e ∷ es) = ap (λ (l : List (Event V)). record { at = e.1.at + c; half = e.1.half; source = x; what = e.0 } ∷ l) (told_later c x es)

  pub rest_law : {K : Type 0} (reads : K → List Placed → List Placed → Type 0) (ps : List (Resumed K V)) → CanAll ps → AllRead reads ps → RestLaw reads ps
  rest_law reads ps can read mode lost bytes e =
      let c = length lost in
      let w = placed_from c bytes in
      let whole : placed (lost ++ bytes) ≡ placed lost ++ w = placed_append lost bytes in
      let rise : BytesRise 0 (0 + length (lost ++ bytes)) (placed lost ++ w) = subst (λ (u : List Placed). BytesRise 0 (0 + length (lost ++ bytes)) u) whole (placed_rise (lost ++ bytes) 0) in
      let f = report_follows reads ps can read mode (placed lost) w (0 + length (lost ++ bytes)) rise (ap (λ (u : List Placed). stop_in (wholes ps) (port_reading mode u)) (sym whole) ∙ e) in
      let moved : w ≡ map (λ b. later c b) (placed bytes) = ap (λ (n : ℕ). placed_from n bytes) (let k : c ≡ 0 + c = omega arith in k) ∙ placed_later c 0 bytes in
      let r = port_of (rest_mode mode) bytes in
      let reading : port_reading (rest_mode mode) w ≡ later_reading c r = ap (port_reading (rest_mode mode)) moved ∙ reading_later c (rest_mode mode) (placed bytes) in
      let late : stop_in (rests ps) (later_reading c r) ≡ None = ap (stop_in (rests ps)) (sym reading) ∙ f.sound in
      let sound = stop_later c ps can r late in
      let es = report (rests ps) (rest_mode mode) (placed bytes) in
      let m = rest_mode mode in
      let events : report (rests ps) m w ≡ map (λ e. later_event c e) es =
      sound_report (rests ps) m w f.sound
      ∙ ap (λ (u : List Placed). told None (port_events m u) ++ all_events (rests ps) (runs_in (port_reading m w))) moved
      ∙ ap (λ (l : List (What V × Place)). told None l ++ all_events (rests ps) (runs_in (port_reading m w))) (port_events_later c m (placed bytes))
      ∙ ap (λ (l : List (Event V)). l ++ all_events (rests ps) (runs_in (port_reading m w))) (told_later c None (port_events m (placed bytes)))
      ∙ ap (λ (l : List (Event V)). map (λ e. later_event c e) (told None (port_events m (placed bytes))) ++ l)
      (ap (λ (q : PortReading). all_events (rests ps) (runs_in q)) reading ∙ ap (all_events (rests ps)) (all_later c r.frames) ∙ report_later c ps can (runs_in r))
      ∙ sym (map-append (λ (e : Event V). later_event c e) (told None (port_events m (placed bytes))) (all_events (rests ps) (runs_in r)))
      ∙ ap (map (λ (e : Event V). later_event c e)) (sym (sound_report (rests ps) m (placed bytes) sound)) in
      record {
        follows = f;
        reading = reading;
        events = events;
        items = ap (λ (l : List (Event V)). from_points (points_in ps (runs_in (later_reading c r))) (items_among l)) (sym events)
            ∙ subst (λ (q : PortReading). from_points (points_in ps (runs_in q)) (items_among (report (rests ps) (rest_mode mode) w)) ≡ from_points (points_in ps (runs_in q)) (items_among (report (wholes ps) mode (placed (lost ++ bytes))))) reading
            (f.events ∙ ap (λ (u : List Placed). from_points (points_in ps (runs_in (port_reading (rest_mode mode) w))) (items_among (report (wholes ps) mode u))) (sym whole));
        sound = sound;
      }

  pub from_follows : (whole rest : List Placed → Stream V) → Follows whole rest → FollowsFrom (λ s. point_of s) whole rest
  from_follows whole rest f u w z rising sound =
      ap (from_point (point_of (rest (w ++ z)))) (f u w z rising sound) ∙ from_twice (point_of (rest (w ++ z))) (items_of (whole (u ++ w)).given)

pub from_start : (bytes : List ℕ) (c : ℕ) → BytesRise 0 (c + length bytes) (placed_from c bytes)
from_start [] c = (let k : 0 ≤ c + 0 = omega arith in k)
from_start (b ∷ bytes) c = ((let k : 0 ≤ c = omega arith in k), (placed_rise (b ∷ bytes) c).1)
