-- One more byte of the port.
use Rattle.std.proofs.Common.{◌≡◌, ℕ, ◌+◌, ◌<◌, List, [], ◌∷◌, ◌++◌, length, refl, sym, ◌∙◌, ap, arith, subst}
use Rattle.std.proofs.Common.{append_assoc, append-nil, Option, None, Some, Bool, true, false, cond}
use Rattle.std.specs.Prelude.{map, flat_map, is_none, if◌then◌else◌}
use Rattle.std.proofs.lemmas.Grind.{flat_map-append}
use Rattle.std.proofs.lemmas.List.{map-append}
use Rattle.trace_values.specs.declared.cell.Cell.{Cell}
use Rattle.trace_values.specs.declared.fault.Reason.{Reason}
use Rattle.trace_values.specs.Placed.{Place, Placed, byte_at}
use Rattle.frame_grammar.specs.Port.{PortItem, Full, start, rule}
use Rattle.port_sync.specs.Hunting.{pattern}
use Rattle.trace_values.specs.Hunted.{hunt}
use Rattle.deformatter.specs.Growth.{PortGrows, AllEndAt}
use Rattle.deformatter.specs.Reading.{PortStream, port_stream, port_hunted, cells_in, items_of}
use Rattle.deformatter.specs.Resume.{taken_again}
use Rattle.deformatter.specs.declared.step.PortStep.{PortStep}
use Rattle.deformatter.specs.declared.step.PortStep.TheVariants.{Quiet, Half, Full as FullEnds, Frame, Locked}
use Rattle.deformatter.specs.declared.step.PortStep.TheVariants.{Fault as Faulty}
use Rattle.deformatter.proofs.BeforeFaults.{seeked}
use Rattle.deformatter.proofs.ReadingLaws.{rises}
use Rattle.deformatter.specs.ReadingGrowth.{frames_by}
use Rattle.deformatter.specs.PortReading.{framed, frames_of_items}
use Rattle.deformatter.proofs.ReaderFeeding.{framed_grows}
use Rattle.source_events.specs.Runs.{all_runs, runs_of}
use Rattle.source_events.proofs.LockSteps.{unlocked, locked}
use Rattle.stretch_readings.specs.Stretches.{Stretch, Stretches, One, fed, renewed, resumed_by, skipped_in}
use Rattle.recovering_machines.specs.Port.{items_by, from_halfword}
use Rattle.recovering_machines.proofs.Feeding.{same}
use Rattle.recovery_report.specs.Port.{of_stretches, stretch_of}
use Rattle.recovery_report.specs.Report.{Part, Run, Locks, lock_of, break_of, parts_of, parts_in}
use Rattle.recovery_report.specs.Words.{parts_by}

-- the lock's part stays, or comes
pub lock_same : (old more new : List (PortItem × Place)) (m n : ℕ) → 0 < length old → new ≡ old ++ more → m ≡ n →
    lock_of new m ≡ lock_of old n
lock_same [] more new m n some e s = absurd (omega arith)
lock_same (x ∷ old) more new m n some e s = ap (λ l. lock_of l m) e ∙ ap (λ k. lock_of (x ∷ old) k) s

lock_new : (old more new : List (PortItem × Place)) (m n at : ℕ) → old ≡ [] → 0 < length new → new ≡ old ++ more →
    AllEndAt at more → m ≡ n →
    lock_of new m ≡ Locks n (record { at = at; half = 0 }) ∷ []
lock_new old [] new m n at none some e all s =
    absurd (let k : new ≡ [] = e ∙ append-nil old ∙ none in let h =
    some in subst (λ (l : List (PortItem × Place)). 0 < length l → ⊥) (sym k) (λ z. omega arith) h)
lock_new old (x ∷ more) new m n at none some e all s =
    ap (λ l. lock_of l m) (e ∙ ap (λ l. l ++ (x ∷ more)) none)
    ∙ ap (λ k. lock_of (x ∷ more) k) s
    ∙ ap (λ p. lock_of ((x.0, p) ∷ more) n) all.0

module _ (h : Bool) (u : List Placed) (count at byte : ℕ) where
  abbrev w : List Placed
  w = u ++ byte_at at byte ∷ []

  abbrev old : PortStream
  old = port_stream h u

  abbrev new : PortStream
  new = port_stream h w

  abbrev lock : Bool → PortStream → List Part
  lock b s = if b then lock_of s.items (count + s.skipped) else []

  abbrev runs : PortStream → List Part
  runs s = map Run (all_runs (framed s).frames)

  abbrev whole : Bool → PortStream → List Part
  whole b s = lock b s ++ (runs s ++ break_of s.fault)

-- it reads on
lock_reads : (h : Bool) (u : List Placed) (count at byte : ℕ) → (port_stream h u).locked ≡ true →
    (port_stream h (u ++ byte_at at byte ∷ [])).skipped ≡ (port_stream h u).skipped →
    lock h u count at byte h (port_stream h (u ++ byte_at at byte ∷ [])) ≡ lock h u count at byte h (port_stream h u)
lock_reads false u count at byte l s = refl
lock_reads true u count at byte l s = let r = rises true u at byte in
    lock_same _ r.more _ _ _ (locked u l) r.items (ap (λ n. count + n) s)

lock_waits : (h : Bool) (u : List Placed) (count at byte : ℕ) → (port_stream h u).locked ≡ false →
    (port_stream h (u ++ byte_at at byte ∷ [])).locked ≡ false →
    lock h u count at byte h (port_stream h (u ++ byte_at at byte ∷ [])) ≡ lock h u count at byte h (port_stream h u)
lock_waits false u count at byte l m = refl
lock_waits true u count at byte l m =
    ap (λ i. lock_of i (count + (port_stream true (u ++ byte_at at byte ∷ [])).skipped))
    (unlocked (u ++ byte_at at byte ∷ []) m)
    ∙ ap (λ i. lock_of i (count + (port_stream true u).skipped)) (sym (unlocked u l))

lock_quiet : (h : Bool) (u : List Placed) (count at byte : ℕ) (b : Bool) → (port_stream h u).locked ≡ b →
    (port_stream h (u ++ byte_at at byte ∷ [])).locked ≡ b →
    (port_stream h (u ++ byte_at at byte ∷ [])).skipped ≡ cond b (port_stream h u).skipped
    ((port_stream h u).skipped + 1) →
    lock h u count at byte h (port_stream h (u ++ byte_at at byte ∷ [])) ≡ lock h u count at byte h (port_stream h u)
lock_quiet h u count at byte true l m s = lock_reads h u count at byte l s
lock_quiet h u count at byte false l m s = lock_waits h u count at byte l m

-- all_runs of more frames
pub runs_push : (frames : List (List Cell)) (cells : List Cell) →
    map Run (all_runs (frames ++ cells ∷ [])) ≡ map Run (all_runs frames) ++ map Run (runs_of cells)
runs_push frames cells =
    ap (map Run) (flat_map-append (λ (f : List Cell). runs_of f) frames (cells ∷ [])
    ∙ ap (λ l. all_runs frames ++ l) (append-nil (runs_of cells)))
    ∙ map-append Run (all_runs frames) (runs_of cells)

-- put together
four : (l f b e : List Part) → l ++ (f ++ b) ≡ (l ++ (f ++ [])) ++ b
four l f b e = ap (λ x. l ++ x) (ap (λ y. y ++ b) (sym (append-nil f))) ∙ sym (append_assoc l (f ++ []) b)

module _ (h : Bool) (u : List Placed) (count at byte : ℕ) (cells : List Cell) (none : (port_stream h u).fault ≡ None)
    (given : cells_in (port_stream h (u ++ byte_at at byte ∷ [])) ≡ cells_in (port_stream h u) ++ cells) where
  abbrev W : PortStream → List Part
  W s = whole h u count at byte h s

  abbrev a : PortStream
  a = port_stream h u

  abbrev b : PortStream
  b = port_stream h (u ++ byte_at at byte ∷ [])

  abbrev Lk : PortStream → List Part
  Lk s = lock h u count at byte h s

  abbrev Rn : PortStream → List Part
  Rn s = runs h u count at byte s

  old_whole : W a ≡ Lk a ++ (Rn a ++ [])
  old_whole = ap (λ o. Lk a ++ (Rn a ++ break_of o)) none

  -- nothing more but these parts after the runs
  after_runs : (more : List Part) → Lk b ≡ Lk a → Rn b ≡ Rn a → break_of b.fault ≡ more → W b ≡ W a ++ more
  after_runs more l r k =
      ap (λ x. x ++ (Rn b ++ break_of b.fault)) l ∙ ap (λ x. Lk a ++ (x ++ break_of b.fault)) r
      ∙ ap (λ x. Lk a ++ (Rn a ++ x)) k
      ∙ four (Lk a) (Rn a) more [] ∙ ap (λ x. x ++ more) (sym old_whole)

  same_runs : (step : PortStep) → PortGrows a b at step →
      Rn b ≡ map Run (all_runs ((framed a).frames ++ frames_by step cells))
  same_runs step g = ap (λ f. map Run (all_runs f)) (framed_grows a b at step cells g given).frames

  no_runs : (step : PortStep) → PortGrows a b at step → frames_by step cells ≡ [] → Rn b ≡ Rn a
  no_runs step g e = same_runs step g ∙ ap (λ f. map Run (all_runs ((framed a).frames ++ f))) e
      ∙ ap (λ f. map Run (all_runs f)) (append-nil (framed a).frames)

  pub whole_grows : (step : PortStep) → PortGrows a b at step → W b ≡ W a ++ parts_by count at step cells
  whole_grows Quiet g = after_runs [] (lock_quiet h u count at byte a.locked refl g.hunt.0 g.hunt.1)
      (no_runs Quiet g refl) (ap break_of g.fault)
  whole_grows Half g = after_runs [] (lock_reads h u count at byte g.hunt.before g.hunt.skipped)
      (no_runs Half g refl) (ap break_of g.fault)
  whole_grows FullEnds g = after_runs [] (lock_reads h u count at byte g.hunt.before g.hunt.skipped)
      (no_runs FullEnds g refl) (ap break_of g.fault)
  whole_grows (Faulty f) g =
      after_runs (parts_by count at (Faulty f) cells) (lock_reads h u count at byte g.hunt.2.before g.hunt.2.skipped)
      (no_runs (Faulty f) g refl) (ap break_of g.fault)
  whole_grows Frame g =
      ap (λ x. x ++ (Rn b ++ break_of b.fault)) (lock_reads h u count at byte g.hunt.before g.hunt.skipped)
      ∙ ap (λ x. Lk a ++ (x ++ break_of b.fault)) (same_runs Frame g ∙ runs_push (framed a).frames cells)
      ∙ ap (λ o. Lk a ++ ((Rn a ++ map Run (runs_of cells)) ++ break_of o)) g.fault
      ∙ ap (λ x. Lk a ++ x) (append-nil (Rn a ++ map Run (runs_of cells))
      ∙ ap (λ x. x ++ map Run (runs_of cells)) (sym (append-nil (Rn a))))
      ∙ sym (append_assoc (Lk a) (Rn a ++ []) (map Run (runs_of cells)))
      ∙ ap (λ x. x ++ map Run (runs_of cells)) (sym old_whole)
  whole_grows (Locked n) g = locks h refl g where
    locks : (t : Bool) → h ≡ t → PortGrows a b at (Locked n) → W b ≡ W a ++ parts_by count at (Locked n) cells
    locks false e g = (let k : true ≡ false = sym (ap (λ t. (port_stream t u).locked) e) ∙ g.hunt.0 in cc)
    locks true e g =
        subst (λ t. whole t u count at byte t (port_stream t (u ++ byte_at at byte ∷ []))
        ≡ whole t u count at byte t (port_stream t u) ++ parts_by count at (Locked n) cells) (sym e)
        (locks_true (subst (λ t. PortGrows (port_stream t u) (port_stream t (u ++ byte_at at byte ∷ [])) at
        (Locked n)) e g)
        (subst (λ t. Rn (port_stream t (u ++ byte_at at byte ∷ [])) ≡ Rn (port_stream t u)) e
        (no_runs (Locked n) g refl)) (ap (λ t. (port_stream t u).fault) (sym e) ∙ none)) where
          locks_true : PortGrows (port_stream true u) (port_stream true (u ++ byte_at at byte ∷ [])) at (Locked n) →
              Rn (port_stream true (u ++ byte_at at byte ∷ [])) ≡ Rn (port_stream true u) →
              (port_stream true u).fault ≡ None →
              whole true u count at byte true (port_stream true (u ++ byte_at at byte ∷ []))
              ≡ whole true u count at byte true (port_stream true u) ++ parts_by count at (Locked n) cells
          locks_true g r none =
              let x = rises true u at byte in
              let p = port_stream true u in
              let q = port_stream true (u ++ byte_at at byte ∷ []) in
              let empty = unlocked u g.hunt.0 in
              let first = lock_new p.items x.more q.items (count + q.skipped) (count + n) at empty
              (locked (u ++ byte_at at byte ∷ []) g.hunt.1) x.items x.all (ap (λ m. count + m) g.hunt.2) in
              let no_frames : Rn p ≡ [] = ap (λ i. map Run (all_runs (frames_of_items None (items_of i)))) empty in
              ap (λ l. l ++ (Rn q ++ break_of q.fault)) first
              ∙ ap (λ l. parts_by count at (Locked n) cells ++ (l ++ break_of q.fault)) (r ∙ no_frames)
              ∙ ap (λ o. parts_by count at (Locked n) cells ++ break_of o) g.fault
              ∙ append-nil (parts_by count at (Locked n) cells)
              ∙ ap (λ l. l ++ parts_by count at (Locked n) cells)
              (sym (ap (λ i. lock_of i (count + p.skipped) ++ (Rn p ++ break_of p.fault)) empty
              ∙ ap (λ l. l ++ break_of p.fault) no_frames ∙ ap break_of none))

-- a stretch's parts, and those of a new hunt that has not locked
part_is : (s : Stretch) (at byte : ℕ) → parts_of (stretch_of s) ≡ whole s.hunts s.units s.count at byte s.hunts
    (port_stream s.hunts s.units)
part_is s at byte =
    ap (λ n. (if s.hunts then lock_of (port_stream s.hunts s.units).items (s.count + n) else []) ++
    (map Run (all_runs (framed (port_stream s.hunts s.units)).frames) ++ break_of
    (port_stream s.hunts s.units).fault)) (same s.hunts s.units).2

pub nothing_yet : (v : List Placed) (count : ℕ) → (hunt pattern Full rule start v).found ≡ None →
    parts_of (stretch_of (record { hunts = true; count = count; units = v })) ≡ []
nothing_yet v count e =
    ap (λ o. (let s = port_hunted (hunt pattern Full rule start v).units o in
    lock_of s.items (skipped_in items_by from_halfword (record { hunts = true; count = count; units = v })) ++
    (map Run (all_runs (framed s).frames) ++ break_of s.fault))) e

-- the parts of the stretches that are over, and then those of the last one
pub all_parts : (past : List Stretch) (s : Stretch) → flat_map parts_of (map stretch_of past ++ stretch_of s ∷ [])
    ≡ flat_map parts_of (map stretch_of past) ++ parts_of (stretch_of s)
all_parts past s = flat_map-append parts_of (map stretch_of past) (stretch_of s ∷ [])
    ∙ ap (λ l. flat_map parts_of (map stretch_of past) ++ l) (append-nil (parts_of (stretch_of s)))

module _ (r : Stretches) (at byte : ℕ) (step : PortStep) (cells : List Cell)
    (none : (port_stream r.now.hunts r.now.units).fault ≡ None)
    (g : PortGrows (port_stream r.now.hunts r.now.units)
    (port_stream r.now.hunts (r.now.units ++ byte_at at byte ∷ [])) at step)
    (e : cells_in (port_stream r.now.hunts (r.now.units ++ byte_at at byte ∷ []))
    ≡ cells_in (port_stream r.now.hunts r.now.units) ++ cells) where
  abbrev units : List Placed
  units = r.now.units ++ byte_at at byte ∷ []

  abbrev longer : Stretches
  longer = record { past = r.past; now = record { hunts = r.now.hunts; count = r.now.count; units = units } }

  abbrev ended : List Part
  ended = flat_map parts_of (map stretch_of r.past)

  grown : parts_of (stretch_of longer.now) ≡ parts_of (stretch_of r.now) ++ parts_by r.now.count at step cells
  grown =
      part_is longer.now at byte
      ∙ whole_grows r.now.hunts r.now.units r.now.count at byte cells none e step g
      ∙ ap (λ l. l ++ parts_by r.now.count at step cells) (sym (part_is r.now at byte))

  longer_parts : parts_in (of_stretches longer) ≡ parts_in (of_stretches r) ++ parts_by r.now.count at step cells
  longer_parts =
      all_parts r.past longer.now ∙ ap (λ l. ended ++ l) grown
      ∙ sym (append_assoc ended (parts_of (stretch_of r.now)) (parts_by r.now.count at step cells))
      ∙ ap (λ l. l ++ parts_by r.now.count at step cells) (sym (all_parts r.past r.now))

  by : (o : Option (Place × Reason)) → (port_stream r.now.hunts units).fault ≡ o →
      parts_in (of_stretches (fed items_by from_halfword r (One (byte_at at byte))))
      ≡ parts_in (of_stretches r) ++ parts_by r.now.count at step cells
  by None f = ap (λ o. parts_in (of_stretches (resumed_by items_by from_halfword o longer)))
      ((same r.now.hunts units).0 ∙ f) ∙ longer_parts
  by (Some x) f =
      let n = renewed items_by from_halfword longer.now in
      let new : parts_of (stretch_of n) ≡ [] =
      nothing_yet (taken_again r.now.hunts units) n.count
      (seeked r.now.hunts r.now.units (byte_at at byte) none (ap is_none f)).none in
      ap (λ o. parts_in (of_stretches (resumed_by items_by from_halfword o longer))) ((same r.now.hunts units).0 ∙ f)
      ∙ all_parts (r.past ++ longer.now ∷ []) n
      ∙ ap (λ l. flat_map parts_of (map stretch_of (r.past ++ longer.now ∷ [])) ++ l) new
      ∙ append-nil (flat_map parts_of (map stretch_of (r.past ++ longer.now ∷ [])))
      ∙ ap (flat_map parts_of) (map-append stretch_of r.past (longer.now ∷ []))
      ∙ longer_parts

  pub port : parts_in (of_stretches (fed items_by from_halfword r (One (byte_at at byte))))
      ≡ parts_in (of_stretches r) ++ parts_by r.now.count at step cells
  port = by (port_stream r.now.hunts units).fault refl
