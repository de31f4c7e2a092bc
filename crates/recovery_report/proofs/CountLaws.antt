-- One more byte of the port: its frames and synchronisations.
use Rattle.std.proofs.Common.{◌≡◌, ℕ, List, [], ◌∷◌, ◌++◌, sym, ◌∙◌, ap, arith, append_assoc, append-nil}
use Rattle.std.proofs.Common.{refl, subst, Option, None, Some, true}
use Rattle.std.specs.Prelude.{map, flat_map, is_none}
use Rattle.std.proofs.lemmas.Grind.{flat_map-append}
use Rattle.std.proofs.lemmas.List.{map-append}
use Rattle.std.proofs.lemmas.List.Sums.{sum_by_push}
use Rattle.trace_values.specs.declared.cell.Cell.{Cell}
use Rattle.trace_values.specs.declared.fault.Reason.{Reason}
use Rattle.trace_values.specs.Placed.{Place, Placed, byte_at}
use Rattle.frame_grammar.specs.Port.{Full, start, rule}
use Rattle.port_sync.specs.Hunting.{pattern}
use Rattle.trace_values.specs.Hunted.{hunt}
use Rattle.deformatter.specs.Growth.{PortGrows}
use Rattle.deformatter.specs.Reading.{port_stream, port_hunted, cells_in}
use Rattle.deformatter.specs.PortReading.{PortReading, framed}
use Rattle.deformatter.specs.ReadingGrowth.{Grows, frames_by}
use Rattle.deformatter.specs.Resume.{taken_again}
use Rattle.deformatter.specs.declared.step.PortStep.{PortStep}
use Rattle.deformatter.specs.declared.step.PortStep.TheVariants.{Quiet}
use Rattle.deformatter.proofs.BeforeFaults.{seeked}
use Rattle.deformatter.proofs.ReaderFeeding.{framed_grows}
use Rattle.stretch_readings.specs.Stretches.{Stretch, Stretches, One, fed, renewed, resumed_by}
use Rattle.recovering_machines.specs.Port.{items_by, from_halfword}
use Rattle.recovering_machines.proofs.Feeding.{same}
use Rattle.recovery_report.specs.Port.{PortStretch, PortStretches, frames_of, of_stretches, stretch_of}
use Rattle.recovery_report.specs.Counts.{CountsGrow}

-- the frames of stretches with one more
pub frames_push : (past : List PortStretch) (s : PortStretch) →
    flat_map (λ (t : PortStretch). t.reading.frames) (past ++ s ∷ [])
    ≡ flat_map (λ (t : PortStretch). t.reading.frames) past ++ s.reading.frames
frames_push past s =
    flat_map-append (λ (t : PortStretch). t.reading.frames) past (s ∷ [])
    ∙ ap (λ l. flat_map (λ (t : PortStretch). t.reading.frames) past ++ l) (append-nil s.reading.frames)

-- a stretch of which nothing is read adds nothing
record IsEmpty (r : PortReading) : Type 0 where
  frames : r.frames ≡ []
  fulls : r.fulls ≡ 0
  halves : r.halves ≡ 0

unlocked : (v : List Placed) → (hunt pattern Full rule start v).found ≡ None → IsEmpty (framed (port_stream true v))
unlocked v e =
    let empty = ap (λ o. framed (port_hunted (hunt pattern Full rule start v).units o)) e in
    record {
      frames = ap (λ (r : PortReading). r.frames) empty;
      fulls = ap (λ (r : PortReading). r.fulls) empty;
      halves = ap (λ (r : PortReading). r.halves) empty;
    }

module _ (past : List PortStretch) (a b : PortStretch) (at : ℕ) (step : PortStep) (cells : List Cell)
    (g : Grows a.reading b.reading at step cells) where
  -- the last stretch grew
  last_grows : CountsGrow (record { past = past; now = a }) (record { past = past; now = b }) step cells
  last_grows = record {
    frames =
        frames_push past b ∙ ap (λ l. flat_map (λ (t : PortStretch). t.reading.frames) past ++ l) g.frames
        ∙ sym (append_assoc (flat_map (λ (t : PortStretch). t.reading.frames) past) a.reading.frames (frames_by step cells))
        ∙ ap (λ l. l ++ frames_by step cells) (sym (frames_push past a));
    fulls =
        (let p = sum_by_push (λ (t : PortStretch). t.reading.fulls) past a in
        let q = sum_by_push (λ (t : PortStretch). t.reading.fulls) past b in let k = g.fulls in omega (arith, p, q, k));
    halves =
        (let p = sum_by_push (λ (t : PortStretch). t.reading.halves) past a in
        let q = sum_by_push (λ (t : PortStretch). t.reading.halves) past b in let k = g.halves in
        omega (arith, p, q, k));
  }

-- and a new one of which nothing is read came
empty_after : (past : List PortStretch) (b n : PortStretch) → IsEmpty n.reading → (r : PortStretches) (step : PortStep)
    (cells : List Cell) → CountsGrow r (record { past = past; now = b }) step cells →
    CountsGrow r (record { past = past ++ b ∷ []; now = n }) step cells
empty_after past b n e r step cells k = record {
  frames =
      frames_push (past ++ b ∷ []) n
      ∙ ap (λ l. flat_map (λ (t : PortStretch). t.reading.frames) (past ++ b ∷ []) ++ l) e.frames
      ∙ append-nil (flat_map (λ (t : PortStretch). t.reading.frames) (past ++ b ∷ [])) ∙ k.frames;
  fulls =
      (let p = sum_by_push (λ (t : PortStretch). t.reading.fulls) (past ++ b ∷ []) n in let x = e.fulls in
      let y = k.fulls in omega (arith, p, x, y));
  halves =
      (let p = sum_by_push (λ (t : PortStretch). t.reading.halves) (past ++ b ∷ []) n in let x = e.halves in
      let y = k.halves in omega (arith, p, x, y));
}

module _ (r : Stretches) (at byte : ℕ) (step : PortStep) (cells : List Cell)
    (none : (port_stream r.now.hunts r.now.units).fault ≡ None)
    (g : PortGrows (port_stream r.now.hunts r.now.units)
    (port_stream r.now.hunts (r.now.units ++ byte_at at byte ∷ [])) at step)
    (e : cells_in (port_stream r.now.hunts (r.now.units ++ byte_at at byte ∷ []))
    ≡ cells_in (port_stream r.now.hunts r.now.units) ++ cells) where
  abbrev units : List Placed
  units = r.now.units ++ byte_at at byte ∷ []

  abbrev longer : Stretches
  longer = record { past = r.past; now = record { hunts = r.now.hunts; count = r.now.count; units = units } }

  longer_grows : CountsGrow (of_stretches r) (of_stretches longer) step cells
  longer_grows = last_grows (map stretch_of r.past) (stretch_of r.now) (stretch_of longer.now) at step cells
      (framed_grows (port_stream r.now.hunts r.now.units) (port_stream r.now.hunts units) at step cells g e)

  by : (o : Option (Place × Reason)) → (port_stream r.now.hunts units).fault ≡ o → CountsGrow (of_stretches r)
      (of_stretches (resumed_by items_by from_halfword o longer)) step cells
  by None f = longer_grows
  by (Some x) f =
      let n : Stretch = renewed items_by from_halfword longer.now in
      let nothing : IsEmpty (stretch_of n).reading =
      unlocked (taken_again r.now.hunts units)
      (seeked r.now.hunts r.now.units (byte_at at byte) none (ap is_none f)).none in
      subst (λ (p : List PortStretch). CountsGrow (of_stretches r) (record { past = p; now = stretch_of n }) step cells)
      (sym (map-append stretch_of r.past (longer.now ∷ [])))
      (empty_after (map stretch_of r.past) (stretch_of longer.now) (stretch_of n) nothing (of_stretches r) step cells
      longer_grows)

  pub counts : CountsGrow (of_stretches r)
      (of_stretches (fed items_by from_halfword r (One (byte_at at byte)))) step cells
  counts =
      subst (λ (o : Option (Place × Reason)). CountsGrow (of_stretches r)
      (of_stretches (resumed_by items_by from_halfword o longer)) step cells)
      (sym (same r.now.hunts units).0) (by (port_stream r.now.hunts units).fault refl)

-- A byte with which a stretch has a fault: what is counted is what the stretch has with it.
module _ (r : Stretches) (at byte : ℕ) (none : (port_stream r.now.hunts r.now.units).fault ≡ None) where
  abbrev with_it : Stretches
  with_it = record {
    past = r.past;
    now = record { hunts = r.now.hunts; count = r.now.count; units = r.now.units ++ byte_at at byte ∷ [] };
  }

  unchanged : CountsGrow (of_stretches with_it) (of_stretches with_it) Quiet []
  unchanged = record {
    frames = sym (append-nil (frames_of (of_stretches with_it)));
    fulls = omega arith;
    halves = omega arith;
  }

  broken_by : (o : Option (Place × Reason)) → (port_stream r.now.hunts with_it.now.units).fault ≡ o →
      CountsGrow (of_stretches with_it) (of_stretches (resumed_by items_by from_halfword o with_it)) Quiet []
  broken_by None f = unchanged
  broken_by (Some x) f =
      let n : Stretch = renewed items_by from_halfword with_it.now in
      let nothing : IsEmpty (stretch_of n).reading =
      unlocked (taken_again r.now.hunts with_it.now.units)
      (seeked r.now.hunts r.now.units (byte_at at byte) none (ap is_none f)).none in
      subst (λ (p : List PortStretch). CountsGrow (of_stretches with_it) (record { past = p; now = stretch_of n }) Quiet [])
      (sym (map-append stretch_of r.past (with_it.now ∷ [])))
      (empty_after (map stretch_of r.past) (stretch_of with_it.now) (stretch_of n) nothing (of_stretches with_it) Quiet []
      unchanged)

  pub broken : CountsGrow (of_stretches with_it)
      (of_stretches (fed items_by from_halfword r (One (byte_at at byte)))) Quiet []
  broken =
      subst (λ (o : Option (Place × Reason)). CountsGrow (of_stretches with_it)
      (of_stretches (resumed_by items_by from_halfword o with_it)) Quiet [])
      (sym (same r.now.hunts with_it.now.units).0) (broken_by (port_stream r.now.hunts with_it.now.units).fault refl)
