-- The parts of a port, and what its bytes strictly read as.
use Rattle.std.proofs.Common.{◌≡◌, ℕ, ◌+◌, ◌≤◌, List, [], ◌∷◌, ◌++◌, map, refl, sym, ◌∙◌, ap, subst, arith}
use Rattle.std.proofs.Common.{append_assoc, append-nil, Option, None, Some, Bool, true, false}
use Rattle.std.specs.Prelude.{flat_map, is_none}
use Rattle.std.proofs.lemmas.List.{map-append}
use Rattle.trace_values.specs.declared.cell.Cell.{Cell}
use Rattle.trace_values.specs.declared.fault.Reason.{Reason}
use Rattle.trace_values.specs.Placed.{Place, Placed}
use Rattle.trace_values.proofs.Modes as modes
use Rattle.trace_values.proofs.OneUnit.{FaultOn}
use Rattle.trace_values.specs.declared.reading_modes.FramesMode.{FramesMode}
use Rattle.trace_values.specs.declared.reading_modes.FramesMode.TheVariants.{Hunt, Aligned, Bare}
use Rattle.frame_grammar.specs.Port.{PortItem, Full, start, rule}
use Rattle.port_sync.specs.Hunting.{pattern}
use Rattle.deformatter.specs.Growth.{PortSettled}
use Rattle.deformatter.specs.Reading.{PortStream, port_stream, items_of}
use Rattle.deformatter.specs.PortReading.{framed, frames_of_items, port_reading}
use Rattle.deformatter.specs.Rising.{BytesRise, Rise, end_at}
use Rattle.deformatter.specs.Names.{offsets_of}
use Rattle.deformatter.proofs.ReadingLaws as port
use Rattle.deformatter.proofs.RisingLaws.{rise_split}
use Rattle.source_events.specs.declared.packet.Packet.{Packet}
use Rattle.source_events.specs.Report.{lock_at, port_events, runs_in}
use Rattle.source_events.specs.Runs.{all_runs}
use Rattle.source_events.proofs.Locking.{first_end, runs_first}
use Rattle.source_events.proofs.Placing.{RunsBetween}
use Rattle.stretch_readings.specs.Stretches.{One, Stretch, Stretches, stretches, skipped_in}
use Rattle.stretch_readings.specs.Words.{Goes}
use Rattle.stretch_readings.proofs.StretchLaws as laws
use Rattle.recovering_machines.specs.Port.{items_by, from_halfword}
use Rattle.recovering_machines.proofs.Feeding.{same}
use Rattle.recovery_report.specs.Port.{of_stretches, recovered, stretch_of}
use Rattle.recovery_report.specs.Report.{Part, Run, Breaks, break_of, lock_of, parts_in, parts_of}
use Rattle.recovery_report.proofs.Items.{IsStill, if_lock, lock_by, still}
use Rattle.recovery_report.proofs.Sounds.{port_sound, port_begins, port_settles}

-- a port with a formatter whose reading has a fault: the bytes before the fault's, and that one
pub record IsBroken (h : Bool) (u : List Placed) (f : Place × Reason) (r : Stretches) : Type 0 where
  pub before : List Placed
  pub unit : Placed
  pub after : List Placed
  pub parts : u ≡ before ++ (unit ∷ after)
  pub more : List Stretch
  pub first : r.past ≡ (record { hunts = h; count = 0; units = before ++ unit ∷ [] }) ∷ more
  pub place : f.0 ≡ unit.place
  pub fault : (port_stream h (before ++ unit ∷ [])).fault ≡ Some f
  pub items : (port_stream h (before ++ unit ∷ [])).items ≡ (port_stream h u).items
  pub skipped : (port_stream h (before ++ unit ∷ [])).skipped ≡ (port_stream h u).skipped
  pub still : IsStill (port_stream h before) (port_stream h (before ++ unit ∷ []))

module _ (h : Bool) (u : List Placed) (f : Place × Reason) (e : (port_stream h u).fault ≡ Some f) where
  abbrev r : Stretches
  r = stretches items_by from_halfword h (map One u)

  broken_by : (past : List Stretch) → r.past ≡ past → Goes items_by from_halfword h 0 u past r.now → IsBroken h u f r
  broken_by [] p g = (let k : None ≡ Some f = sym g.1 ∙ (same h u).0 ∙ e in cc)
  broken_by (s ∷ more) p g =
      let w = g.0 ++ g.1 ∷ [] in
      let all : w ++ g.2 ≡ u = append_assoc g.0 (g.1 ∷ []) g.2 ∙ sym g.3 in
      let t = subst (λ l. PortSettled (port_stream h w) (port_stream h l)) all
      (port.settles h w g.2 (ap is_none (sym (same h w).0) ∙ g.6)) in
      let fault : (port_stream h w).fault ≡ Some f = sym t.fault ∙ e in
      let on = (modes.rises_on pattern Full rule start h g.0 g.1).fault in
      record {
        before = g.0;
        unit = g.1;
        after = g.2;
        parts = g.3;
        more = more;
        first = p ∙ ap (λ (z : Stretch). z ∷ more) g.4;
        place = subst (λ (o : Option (Place × Reason)). FaultOn g.1.place o (Some f)) g.5
            (subst (λ (o : Option (Place × Reason)). FaultOn g.1.place (items_by h g.0).fault o)
            ((same h w).0 ∙ fault) on);
        fault = fault;
        items = sym t.items;
        skipped = sym t.skipped;
        still = still h g.0 g.1 g.6;
      }

  pub broken : IsBroken h u f r
  broken = broken_by r.past refl (laws.words items_by from_halfword port_sound h (port_begins h) u)

-- the runs of a port's items
abbrev runs_by : PortStream → List (List Cell)
runs_by s = all_runs (framed s).frames

runs_same : (a b : PortStream) → a.items ≡ b.items → runs_by a ≡ runs_by b
runs_same a b e = ap (λ i. all_runs (frames_of_items None (items_of i))) e

-- how the parts end: with nothing more, or with the fault, at or behind this offset
abbrev pub EndsBy : Option (Place × Reason) → ℕ → List Part → Type 0
EndsBy None end rest = rest ≡ []
EndsBy (Some f) end rest = (more : List Part) × (rest ≡ Breaks f.1 f.0 ∷ more) × (end ≤ f.0.at)

-- the parts of a stretch that begins the reading
module _ (h : Bool) (u : List Placed) where
  abbrev whole : PortStream
  whole = port_stream h u

  own_parts : (w : List Placed) → (port_stream h w).items ≡ whole.items → (port_stream h w).skipped ≡ whole.skipped →
      (let s : Stretch = record { hunts = h; count = 0; units = w } in
      parts_of (stretch_of s)
      ≡ lock_of (lock_by h whole.items) whole.skipped ++ (map Run (runs_by whole) ++ break_of (port_stream h w).fault))
  own_parts w e f =
      let s : Stretch = record { hunts = h; count = 0; units = w } in
      let t = port_stream h w in
      let skipped : skipped_in items_by from_halfword s ≡ whole.skipped =
      (let z : 0 + (items_by h w).skipped ≡ (items_by h w).skipped = omega arith in z) ∙ (same h w).2 ∙ f in
      ap (λ l. l ++ (map Run (runs_by t) ++ break_of t.fault))
      (if_lock h t.items (skipped_in items_by from_halfword s)
      ∙ ap (λ i. lock_of (lock_by h i) (skipped_in items_by from_halfword s)) e
      ∙ ap (λ n. lock_of (lock_by h whole.items) n) skipped)
      ∙ ap (λ l. lock_of (lock_by h whole.items) whole.skipped ++ (map Run l ++ break_of t.fault)) (runs_same t whole e)

  abbrev all : Stretches
  all = stretches items_by from_halfword h (map One u)

  parts_none : whole.fault ≡ None → parts_in (of_stretches all)
      ≡ lock_of (lock_by h whole.items) whole.skipped ++ (map Run (runs_by whole) ++ [])
  parts_none e =
      ap (λ (r : Stretches). parts_in (of_stretches r))
      (laws.strict items_by from_halfword port_sound port_begins port_settles h u ((same h u).0 ∙ e))
      ∙ append-nil (parts_of (stretch_of (record { hunts = h; count = 0; units = u }))) ∙ own_parts u refl refl
      ∙ ap (λ o. lock_of (lock_by h whole.items) whole.skipped ++ (map Run (runs_by whole) ++ break_of o)) e

  module _ (f : Place × Reason) (e : whole.fault ≡ Some f) where
    abbrev at_fault : IsBroken h u f all
    at_fault = broken h u f e

    parts_some : parts_in (of_stretches all)
        ≡ lock_of (lock_by h whole.items) whole.skipped
        ++ (map Run (runs_by whole) ++ (Breaks f.1 f.0 ∷ flat_map parts_of
        (map stretch_of at_fault.more ++ stretch_of all.now ∷ [])))
    parts_some =
        let w = at_fault.before ++ at_fault.unit ∷ [] in
        let l = lock_of (lock_by h whole.items) whole.skipped in
        let rest = flat_map parts_of (map stretch_of at_fault.more ++ stretch_of all.now ∷ []) in
        ap (λ (past : List Stretch). flat_map parts_of (map stretch_of past ++ stretch_of all.now ∷ [])) at_fault.first
        ∙ ap (λ p. p ++ rest) (own_parts w at_fault.items at_fault.skipped
        ∙ ap (λ o. l ++ (map Run (runs_by whole) ++ break_of o)) at_fault.fault)
        ∙ append_assoc l (map Run (runs_by whole) ++ Breaks f.1 f.0 ∷ []) rest
        ∙ ap (λ p. l ++ p) (append_assoc (map Run (runs_by whole)) (Breaks f.1 f.0 ∷ []) rest)

-- The parts of a capture: those of its lock, its runs, and its fault with what comes after it.
pub record IsParted (mode : FramesMode) (u : List Placed) : Type 0 where
  pub items : List (PortItem × Place)
  pub count : ℕ
  pub rest : List Part
  pub parts : parts_in (recovered mode u) ≡ lock_of items count ++ (map Run (runs_in (port_reading mode u)) ++ rest)
  pub lock_is : port_events {V = Packet} mode u ≡ lock_at count items
  pub end : ℕ
  pub between : RunsBetween (first_end 0 (port_events {V = Packet} mode u)) end (runs_in (port_reading mode u))
  pub ends : EndsBy (port_reading mode u).fault end rest

rise_low : (lo hi : ℕ) (u : List Placed) → BytesRise lo hi u → BytesRise 0 hi u
rise_low lo hi [] r = (let k : lo ≤ hi = r in let z : 0 ≤ hi = omega arith in z)
rise_low lo hi (b ∷ u) r = ((let z : 0 ≤ b.place.at = omega arith in z), r.1)

-- a port with a formatter
module _ (h : Bool) (u : List Placed) (hi : ℕ) (rise : BytesRise 0 hi u)
    (first : (v : List Placed) (m : ℕ) → BytesRise 0 m v → RunsBetween
    (first_end 0 (lock_at {V = Packet} (port_stream h v).skipped (lock_by h (port_stream h v).items))) m
    (runs_by (port_stream h v))) where
  abbrev t : PortStream
  t = port_stream h u

  record IsFramed : Type 0 where
    rest : List Part
    parts : parts_in (of_stretches (stretches items_by from_halfword h (map One u)))
        ≡ lock_of (lock_by h t.items) t.skipped ++ (map Run (runs_by t) ++ rest)
    end : ℕ
    between : RunsBetween (first_end 0 (lock_at {V = Packet} t.skipped (lock_by h t.items))) end (runs_by t)
    ends : EndsBy t.fault end rest

  framed_by : (o : Option (Place × Reason)) → t.fault ≡ o → IsFramed
  framed_by None e = record {
    rest = [];
    parts = parts_none h u e;
    end = hi;
    between = first u hi rise;
    ends = subst (λ (o : Option (Place × Reason)). EndsBy o hi []) (sym e) refl;
  }
  framed_by (Some f) e =
      let b = broken h u f e in
      let v = b.before in
      let two = rise_split (offsets_of v) (offsets_of (b.unit ∷ b.after)) 0 hi
      (subst (λ (l : List ℕ). Rise 0 hi l)
      (ap offsets_of b.parts ∙ map-append (λ (p : Placed). p.place.at) v (b.unit ∷ b.after)) rise) in
      let mid = end_at 0 (offsets_of v) in
      let items : (port_stream h v).items ≡ t.items = sym b.still.items ∙ b.items in
      let skipped : (port_stream h v).skipped ≡ t.skipped = sym b.still.skipped ∙ b.skipped in
      let low : mid ≤ f.0.at = subst (λ (p : Place). mid ≤ p.at) (sym b.place) two.1.0 in
      let later = flat_map parts_of (map stretch_of b.more
      ++ stretch_of (stretches items_by from_halfword h (map One u)).now ∷ []) in
      record {
        rest = Breaks f.1 f.0 ∷ later;
        parts = parts_some h u f e;
        end = mid;
        between =
            subst (λ (l : List (List Cell)).
            RunsBetween (first_end 0 (lock_at {V = Packet} t.skipped (lock_by h t.items))) mid l)
            (runs_same (port_stream h v) t items)
            (subst (λ (n : ℕ). RunsBetween (first_end 0 (lock_at {V = Packet} n (lock_by h t.items))) mid
            (runs_by (port_stream h v))) skipped
            (subst (λ (i : List (PortItem × Place)). RunsBetween
            (first_end 0 (lock_at {V = Packet} (port_stream h v).skipped (lock_by h i))) mid
            (runs_by (port_stream h v))) items (first v mid two.0)));
        ends =
            subst (λ (o : Option (Place × Reason)). EndsBy o mid (Breaks f.1 f.0 ∷ later)) (sym e) (later, refl, low);
      }

  framed_parts : IsFramed
  framed_parts = framed_by t.fault refl

pub parted : (mode : FramesMode) (lo hi : ℕ) (u : List Placed) → BytesRise lo hi u → IsParted mode u
parted Aligned lo hi u r =
    let k = framed_parts false u hi (rise_low lo hi u r) (λ v m q. runs_first Packet Aligned v 0 m q) in
    record {
      items = [];
      count = (port_stream false u).skipped;
      rest = k.rest;
      parts = k.parts;
      lock_is = refl;
      end = k.end;
      between = k.between;
      ends = k.ends;
    }
parted Hunt lo hi u r =
    let k = framed_parts true u hi (rise_low lo hi u r) (λ v m q. runs_first Packet Hunt v 0 m q) in
    record {
      items = (port_stream true u).items;
      count = (port_stream true u).skipped;
      rest = k.rest;
      parts = k.parts;
      lock_is = refl;
      end = k.end;
      between = k.between;
      ends = k.ends;
    }
parted Bare lo hi u r = record {
  items = [];
  count = 0;
  rest = [];
  parts = append-nil (map Run (runs_in (port_reading Bare u)) ++ []);
  lock_is = refl;
  end = hi;
  between = runs_first Packet Bare u 0 hi (rise_low lo hi u r);
  ends = refl;
}
