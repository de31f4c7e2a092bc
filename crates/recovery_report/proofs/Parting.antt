-- The parts of a capture whose bytes rise in offset lie one after the other.
use Rattle.std.proofs.Common.{◌≡◌, ℕ, ◌+◌, ◌≤◌, List, [], ◌∷◌, ◌++◌, map, refl, sym, ◌∙◌, ap, subst, arith}
use Rattle.std.proofs.Common.{append_assoc, append-nil, Option, None, Some, Bool, true, false}
use Rattle.std.specs.Prelude.{flat_map, is_none}
use Rattle.std.proofs.lemmas.Grind.{flat_map-append}
use Rattle.std.proofs.lemmas.List.{map-append}
use Rattle.trace_values.specs.declared.fault.Reason.{Reason}
use Rattle.trace_values.specs.declared.reading_modes.FramesMode.{FramesMode}
use Rattle.trace_values.specs.declared.reading_modes.FramesMode.TheVariants.{Hunt, Aligned, Bare}
use Rattle.trace_values.specs.Hunted.{hunt}
use Rattle.trace_values.specs.Placed.{Place, Placed}
use Rattle.trace_values.proofs.Modes as modes
use Rattle.trace_values.proofs.OneUnit.{FaultOn}
use Rattle.frame_grammar.specs.Port.{Full, start, rule}
use Rattle.port_sync.specs.Hunting.{pattern}
use Rattle.deformatter.specs.PortReading.{frames_of_items, port_reading}
use Rattle.deformatter.specs.Reading.{items_of, port_hunted, port_stream}
use Rattle.deformatter.specs.Resume.{taken_again}
use Rattle.deformatter.specs.Rising.{BytesRise}
use Rattle.deformatter.proofs.BeforeFaults.{seeked}
use Rattle.source_events.specs.Merge.{InOrder}
use Rattle.source_events.specs.Report.{runs_in}
use Rattle.source_events.specs.Runs.{all_runs}
use Rattle.source_events.proofs.Placing.{runs_between}
use Rattle.stretch_readings.specs.Stretches.{One, Stretch, Stretches, before, fed, fed_from, renewed, resumed_by}
use Rattle.stretch_readings.specs.Stretches.{skipped_in, stretches}
use Rattle.recovering_machines.specs.Port.{items_by, from_halfword}
use Rattle.recovering_machines.proofs.Feeding.{same}
use Rattle.recovery_report.specs.Port.{of_stretches, recovered, stretch_of}
use Rattle.recovery_report.specs.Placing.{PartLies, PartsBetween, part_end}
use Rattle.recovery_report.specs.Report.{Run, Breaks, break_of, lock_of, parts_in, parts_of}
use Rattle.recovery_report.proofs.Sounds.{port_begins, port_sound}
use Rattle.recovery_report.proofs.Items.{if_lock, lock_by, still}
use Rattle.recovery_report.proofs.Placing.{bytes_drop, bytes_push, front, front_lies, parts_join, parts_later}
use Rattle.recovery_report.proofs.Placing.{parts_order, runs_parts}

-- the parts of a stretch, whose fault is this
stretch_parts : (s : Stretch) (o : Option (Place × Reason)) → (port_stream s.hunts s.units).fault ≡ o →
    parts_of (stretch_of s) ≡ front s.hunts (skipped_in items_by from_halfword s) (port_stream s.hunts s.units).items
    ++ break_of o
stretch_parts s o e =
    let t = port_stream s.hunts s.units in
    let runs = map Run (all_runs (frames_of_items None (items_of t.items))) in
    let skipped = skipped_in items_by from_halfword s in
    ap (λ l. l ++ (runs ++ break_of t.fault)) (if_lock s.hunts t.items skipped)
    ∙ sym (append_assoc (lock_of (lock_by s.hunts t.items) skipped) runs (break_of t.fault))
    ∙ ap (λ z. front s.hunts skipped t.items ++ break_of z) e

-- Stretches of bytes up to an offset. The last one took some bytes again, which are no item yet: so each of its parts is
-- at the bytes after these, and they begin where the parts of the stretches that are over end.
record IsPlaced (lo n : ℕ) (r : Stretches) : Type 0 where
  again : List Placed
  after : List Placed
  low : ℕ
  begin : ℕ
  units : r.now.units ≡ again ++ after
  past : PartsBetween lo begin (flat_map parts_of (map stretch_of r.past))
  sound : (items_by r.now.hunts r.now.units).fault ≡ None
  empty : (port_stream r.now.hunts again).items ≡ []
  first : r.now.hunts ≡ false → low ≡ begin
  whole : BytesRise low n r.now.units
  rise : BytesRise begin n after

module _ (lo n : ℕ) (r : Stretches) (i : IsPlaced lo n r) where
  abbrev h : Bool
  h = r.now.hunts

  abbrev u : List Placed
  u = r.now.units

  now_front : (skipped : ℕ) → PartsBetween i.begin n (front h skipped (port_stream h u).items)
  now_front skipped =
      subst (λ l. PartsBetween i.begin n (front h skipped (port_stream h l).items)) (sym i.units)
      (front_lies h i.again i.after i.low i.begin n i.empty (subst (λ l. BytesRise i.low n l) i.units i.whole) i.rise
      i.first skipped)

  all_with : (s : Stretch) → flat_map parts_of (map stretch_of r.past ++ stretch_of s ∷ [])
      ≡ flat_map parts_of (map stretch_of r.past) ++ parts_of (stretch_of s)
  all_with s =
      flat_map-append parts_of (map stretch_of r.past) (stretch_of s ∷ [])
      ∙ ap (λ l. flat_map parts_of (map stretch_of r.past) ++ l) (append-nil (parts_of (stretch_of s)))

  placed_all : PartsBetween lo n (parts_in (of_stretches r))
  placed_all =
      subst (PartsBetween lo n) (sym (all_with r.now))
      (parts_join (flat_map parts_of (map stretch_of r.past)) (parts_of (stretch_of r.now)) lo i.begin n i.past
      (subst (PartsBetween i.begin n) (sym (stretch_parts r.now None (sym (same h u).0 ∙ i.sound)
      ∙ append-nil (front h (skipped_in items_by from_halfword r.now) (port_stream h u).items)))
      (now_front (skipped_in items_by from_halfword r.now))))

  -- with one byte more
  module _ (b : Placed) (l : n ≤ b.place.at) where
    abbrev w : List Placed
    w = u ++ b ∷ []

    abbrev s : Stretch
    s = record { hunts = h; count = r.now.count; units = w }

    goes : (items_by h w).fault ≡ None → IsPlaced lo (b.place.at + 1) (record { past = r.past; now = s })
    goes e = record {
      again = i.again;
      after = i.after ++ b ∷ [];
      low = i.low;
      begin = i.begin;
      units = ap (λ k. k ++ b ∷ []) i.units ∙ append_assoc i.again i.after (b ∷ []);
      past = i.past;
      sound = e;
      empty = i.empty;
      first = i.first;
      whole = bytes_push u b i.low n i.whole l;
      rise = bytes_push i.after b i.begin n i.rise l;
    }

    module _ (f : Place × Reason) (e : (items_by h w).fault ≡ Some f) where
      place : f.0 ≡ b.place
      place = subst (λ (o : Option (Place × Reason)). FaultOn b.place o (Some f)) i.sound
          (subst (λ (o : Option (Place × Reason)). FaultOn b.place (items_by h u).fault o) e
          (modes.rises_on pattern Full rule start h u b).fault)

      ended : PartsBetween i.begin (b.place.at + 1) (parts_of (stretch_of s))
      ended =
          let skipped = skipped_in items_by from_halfword s in
          subst (PartsBetween i.begin (b.place.at + 1))
          (sym (stretch_parts s (Some f) (sym (same h w).0 ∙ e)
          ∙ ap (λ t. front h skipped t ++ Breaks f.1 f.0 ∷ []) (still h u b (ap is_none e)).items))
          (parts_join (front h skipped (port_stream h u).items) (Breaks f.1 f.0 ∷ []) i.begin n (b.place.at + 1)
          (now_front skipped) (
            subst (λ (p : Place). n ≤ p.at) (sym place) l,
            subst (λ (p : Place). p.at + 1 ≤ b.place.at + 1) (sym place) (omega arith),
          ))

      falls : IsPlaced lo (b.place.at + 1)
          (record { past = r.past ++ s ∷ []; now = renewed items_by from_halfword s })
      falls = record {
        again = taken_again h w;
        after = [];
        low = i.low;
        begin = b.place.at + 1;
        units = sym (append-nil (taken_again h w));
        past =
            subst (PartsBetween lo (b.place.at + 1))
            (sym (ap (flat_map parts_of) (map-append stretch_of r.past (s ∷ [])) ∙ all_with s))
            (parts_join (flat_map parts_of (map stretch_of r.past)) (parts_of (stretch_of s)) lo i.begin
            (b.place.at + 1) i.past ended);
        sound = port_sound h u b i.sound (ap is_none e);
        empty =
            ap (λ o. (port_hunted (hunt pattern Full rule start (taken_again h w)).units o).items)
            (seeked h u b (sym (same h u).0 ∙ i.sound) (ap is_none (sym (same h w).0 ∙ e))).none;
        first = λ k. (let z : true ≡ false = k in cc);
        whole = bytes_drop _ w i.low (b.place.at + 1) (bytes_push u b i.low n i.whole l);
        rise = (let z : b.place.at + 1 ≤ b.place.at + 1 = omega arith in z);
      }

    step : IsPlaced lo (b.place.at + 1) (fed items_by from_halfword r (One b))
    step = by (items_by h w).fault refl where
      by : (o : Option (Place × Reason)) → (items_by h w).fault ≡ o →
          IsPlaced lo (b.place.at + 1) (fed items_by from_halfword r (One b))
      by None e =
          subst (λ o. IsPlaced lo (b.place.at + 1)
          (resumed_by items_by from_halfword o (record { past = r.past; now = s }))) (sym e) (goes e)
      by (Some f) e =
          subst (λ o. IsPlaced lo (b.place.at + 1)
          (resumed_by items_by from_halfword o (record { past = r.past; now = s }))) (sym e) (falls f e)

walk : (l : List Placed) (lo n hi : ℕ) (r : Stretches) → IsPlaced lo n r → BytesRise n hi l →
    PartsBetween lo hi (parts_in (of_stretches (fed_from items_by from_halfword r (map One l))))
walk [] lo n hi r i x = parts_later (parts_in (of_stretches r)) lo n hi x (placed_all lo n r i)
walk (b ∷ l) lo n hi r i x =
    walk l lo (b.place.at + 1) hi (fed items_by from_halfword r (One b)) (step lo n r i b x.0) x.1

framed : (h : Bool) (u : List Placed) (lo hi : ℕ) → BytesRise lo hi u → (port_stream h []).items ≡ [] →
    PartsBetween lo hi (parts_in (of_stretches (stretches items_by from_halfword h (map One u))))
framed h u lo hi r none = walk u lo lo hi (before items_by from_halfword h) (record {
  again = [];
  after = [];
  low = lo;
  begin = lo;
  units = refl;
  past = (let z : lo ≤ lo = omega arith in z);
  sound = port_begins h;
  empty = none;
  first = λ k. refl;
  whole = (let z : lo ≤ lo = omega arith in z);
  rise = (let z : lo ≤ lo = omega arith in z);
}) r

pub parts_placed : (mode : FramesMode) (u : List Placed) (lo hi : ℕ) → BytesRise lo hi u →
    PartsBetween lo hi (parts_in (recovered mode u))
parts_placed Aligned u lo hi r = framed false u lo hi r refl
parts_placed Hunt u lo hi r = framed true u lo hi r refl
parts_placed Bare u lo hi r =
    let rs = runs_in (port_reading Bare u) in
    subst (PartsBetween lo hi) (sym (append-nil (map Run rs ++ []) ∙ append-nil (map Run rs)))
    (runs_parts rs lo hi (runs_between Bare u lo hi r))

pub parts_in_order : (mode : FramesMode) (u : List Placed) (lo hi : ℕ) → BytesRise lo hi u →
    InOrder PartLies part_end lo (parts_in (recovered mode u))
parts_in_order mode u lo hi r = parts_order (parts_in (recovered mode u)) lo hi (parts_placed mode u lo hi r)
