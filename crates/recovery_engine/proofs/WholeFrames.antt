-- A whole frame of the port: it ends its runs, and what is counted grows by it.
use Rattle.std.proofs.Common.{◌≡◌, ◌≢◌, ℕ, ◌+◌, List, [], ◌∷◌, ◌++◌, refl, sym, ◌∙◌, ap, subst, arith}
use Rattle.std.proofs.Common.{append_assoc, append-nil, Bool, true, false, Option, None, inl, inr}
use Rattle.std.specs.Prelude.{map, flat_map, if◌then◌else◌}
use Rattle.std.proofs.lemmas.List.Sums.{sum_by_push}
use Rattle.trace_values.specs.declared.cell.Cell.{Cell}
use Rattle.trace_values.specs.Placed.{Place, Placed, byte_at, placed_from, units_of}
use Rattle.trace_values.specs.declared.reading_modes.FramesMode.{FramesMode}
use Rattle.trace_values.specs.declared.reading_modes.FramesMode.TheVariants.{Hunt, Aligned, Bare}
use Rattle.frame_grammar.specs.Frame.{cells}
use Rattle.frame_grammar.specs.Port.{PortItem}
use Rattle.frame_grammar.specs.Port.{Half as HalfItem}
use Rattle.frame_grammar.specs.Reading.{offsets_of}
use Rattle.deformatter.specs.Frames as frames
use Rattle.deformatter.specs.PortReading.{framed}
use Rattle.deformatter.specs.Block.{EachByte, IsInside}
use Rattle.deformatter.specs.Growth.{ItemsBy, place_at}
use Rattle.deformatter.specs.Names.{cells_of_items}
use Rattle.deformatter.specs.Reading.{PortStream, cells_in, items_of, port_stream}
use Rattle.deformatter.specs.declared.step.PortStep.TheVariants.{Half, Quiet}
use Rattle.deformatter.specs.ReadingGrowth as readings
use Rattle.frame_grammar.proofs.Items.{cells_of_items-push}
use Rattle.deformatter.proofs.Growing.{items_push}
use Rattle.deformatter.proofs.ReaderFeeding.{reading_frame}
use Rattle.source_events.specs.Runs.{all_runs, runs_of}
use Rattle.source_events.proofs.LockSteps.{locked}
use Rattle.stretch_readings.specs.Stretches.{One, Stretches, fed}
use Rattle.recovering_machines.specs.Port as ports
use Rattle.recovering_machines.specs.Port.{PassesFrame, from_halfword, id_of, items_by, with_bytes, with_units}
use Rattle.recovering_machines.specs.declared.port.RecoveringPort.{RecoveringPort}
use Rattle.recovering_machines.proofs.Feeding.{byte_goes, none_before, same}
use Rattle.recovery_report.specs.Port.{PortStretch, of_stretches, port_stretches, recovered, stretch_of}
use Rattle.recovery_report.specs.Report.{Part, Run, break_of, lock_of, parts_in, parts_of}
use Rattle.recovery_report.proofs.CountLaws.{frames_push}
use Rattle.recovery_report.proofs.PortLaws as laws
use Rattle.recovery_report.proofs.PortLaws.{all_parts, lock_same, runs_push}
use Rattle.recovery_engine.specs.Counting.{GrowsByFrame}
use Rattle.recovery_engine.specs.Front.{EndsLast}
use Rattle.recovery_engine.specs.Port.{PortStands}
use Rattle.recovery_engine.proofs.Feeding.{port_more}

-- the lock's part of a stretch that has these units
abbrev lock_in : Bool → ℕ → List Placed → List Part
lock_in h count u = if h then lock_of (port_stream h u).items (count + (items_by h u).skipped) else []

-- it stays where the reading goes on
lock_stays : (h : Bool) (count : ℕ) (u v : List Placed) (more : List (PortItem × Place)) →
    (port_stream h u).locked ≡ true → (port_stream h v).items ≡ (port_stream h u).items ++ more →
    (port_stream h v).skipped ≡ (port_stream h u).skipped → lock_in h count v ≡ lock_in h count u
lock_stays false count u v more l e s = refl
lock_stays true count u v more l e s =
    lock_same (port_stream true u).items more (port_stream true v).items _ _ (locked u l) e
    (ap (λ n. count + n) ((same true v).2 ∙ s ∙ sym (same true u).2))

-- the reading in frames grows as that of items does
as_frames : (h : Bool) (u w f : List Placed) (inner : ℕ) (id : Option ℕ) →
    frames.GrowsByFrame (port_stream h u) (port_stream h (u ++ w)) w f inner id →
    readings.GrowsByFrame (framed (port_stream h u)) (framed (port_stream h (u ++ w))) inner
    (cells (units_of f) (offsets_of f) id)
as_frames false u w f inner id g = reading_frame Aligned refl false refl u w f inner id g
as_frames true u w f inner id g = reading_frame Hunt refl true refl u w f inner id g

module _ (r : Stretches) (at : ℕ) (bytes : List ℕ) (f : List Placed) (inner : ℕ) (id : Option ℕ)
    (p : PassesFrame r at bytes f inner id) (none : (port_stream r.now.hunts r.now.units).fault ≡ None) where
  abbrev h : Bool
  h = r.now.hunts

  abbrev u : List Placed
  u = r.now.units

  abbrev v : List Placed
  v = r.now.units ++ placed_from at bytes

  abbrev got : List Cell
  got = cells (units_of f) (offsets_of f) id

  abbrev new : Stretches
  new = with_units r v

  grown : readings.GrowsByFrame (framed (port_stream h u)) (framed (port_stream h v)) inner got
  grown = as_frames h u (placed_from at bytes) f inner id p.grows

  abbrev runs : List Placed → List Part
  runs w = map Run (all_runs (framed (port_stream h w)).frames)

  abbrev lock : List Placed → List Part
  lock w = lock_in h r.now.count w

  was : parts_of (stretch_of r.now) ≡ lock u ++ (runs u ++ [])
  was = ap (λ o. lock u ++ (runs u ++ break_of o)) none

  is : parts_of (stretch_of new.now) ≡ parts_of (stretch_of r.now) ++ map Run (runs_of got)
  is =
      ap (λ x. x ++ (runs v ++ break_of (port_stream h v).fault))
      (lock_stays h r.now.count u v _ p.grows.hunt.before p.grows.items p.grows.hunt.skipped)
      ∙ ap (λ x. lock u ++ (x ++ break_of (port_stream h v).fault))
      (ap (λ l. map Run (all_runs l)) grown.frames ∙ runs_push (framed (port_stream h u)).frames got)
      ∙ ap (λ o. lock u ++ ((runs u ++ map Run (runs_of got)) ++ break_of o)) p.grows.fault
      ∙ ap (λ x. lock u ++ x) (append-nil (runs u ++ map Run (runs_of got))
      ∙ ap (λ x. x ++ map Run (runs_of got)) (sym (append-nil (runs u))))
      ∙ sym (append_assoc (lock u) (runs u ++ []) (map Run (runs_of got)))
      ∙ ap (λ x. x ++ map Run (runs_of got)) (sym was)

  -- the parts of all stretches
  pub stretch_parts : parts_in (of_stretches (with_bytes r at bytes))
      ≡ parts_in (of_stretches r) ++ map Run (runs_of got)
  stretch_parts =
      let ended = flat_map parts_of (map stretch_of r.past) in
      ap (λ (s : Stretches). parts_in (of_stretches s)) p.list
      ∙ all_parts r.past new.now ∙ ap (λ l. ended ++ l) is
      ∙ sym (append_assoc ended (parts_of (stretch_of r.now)) (map Run (runs_of got)))
      ∙ ap (λ l. l ++ map Run (runs_of got)) (sym (all_parts r.past r.now))

  -- and their counts
  counts : GrowsByFrame (of_stretches r) (of_stretches new) inner got
  counts =
      let past = map stretch_of r.past in
      let a = stretch_of r.now in
      let b = stretch_of new.now in
      let before = flat_map (λ (t : PortStretch). t.reading.frames) past in
      record {
        frames =
            frames_push past b ∙ ap (λ l. before ++ l) grown.frames
            ∙ sym (append_assoc before a.reading.frames (got ∷ []))
            ∙ ap (λ l. l ++ got ∷ []) (sym (frames_push past a));
        fulls =
            (let x = sum_by_push (λ (t : PortStretch). t.reading.fulls) past a in
            let y = sum_by_push (λ (t : PortStretch). t.reading.fulls) past b in let k = grown.fulls in
            omega (arith, x, y, k));
        halves =
            (let x = sum_by_push (λ (t : PortStretch). t.reading.halves) past a in
            let y = sum_by_push (λ (t : PortStretch). t.reading.halves) past b in let k = grown.halves in
            omega (arith, x, y, k));
      }

  pub stretch_counts : GrowsByFrame (of_stretches r) (of_stretches (with_bytes r at bytes)) inner got
  stretch_counts =
      subst (λ (s : Stretches). GrowsByFrame (of_stretches r) (of_stretches s) inner got) (sym p.list) counts

-- the bytes of a frame before its last end nothing
half_cells : (a b : PortStream) (at : ℕ) → ItemsBy a.items b.items at Half → cells_in b ≡ cells_in a ++ []
half_cells a b at (inl e) =
    ap (λ i. cells_of_items None (items_of i)) e ∙ sym (append-nil (cells_in a))
half_cells a b at (inr e) =
    ap (λ i. cells_of_items None (items_of i)) e
    ∙ ap (cells_of_items None) (items_push a.items HalfItem (place_at at))
    ∙ cells_of_items-push None (items_of a.items) HalfItem

-- a byte of a frame before its last, and those after it
inside_then : (front : List ℕ) (r : Stretches) (at x : ℕ) → (let w = r.now.units ++ byte_at at x ∷ [] in
    (port_stream r.now.hunts w).fault ≡ None →
    parts_in (of_stretches (fed items_by from_halfword r (One (byte_at at x)))) ≡ parts_in (of_stretches r) →
    parts_in (of_stretches (with_bytes (with_units r w) (at + 1) front)) ≡ parts_in (of_stretches (with_units r w)) →
    parts_in (of_stretches (with_bytes r at (x ∷ front))) ≡ parts_in (of_stretches r))
inside_then front r at x sound one rest =
    let goes = byte_goes r at x sound in
    ap (λ (s : Stretches). parts_in (of_stretches (with_bytes s (at + 1) front))) goes
    ∙ rest ∙ ap (λ (s : Stretches). parts_in (of_stretches s)) (sym goes) ∙ one

inside_parts : (front : List ℕ) (r : Stretches) (at : ℕ) → (port_stream r.now.hunts r.now.units).fault ≡ None →
    EachByte (IsInside r.now.hunts) r.now.units at front →
    parts_in (of_stretches (with_bytes r at front)) ≡ parts_in (of_stretches r)
inside_parts [] r at none e = refl
inside_parts (x ∷ front) r at none e =
    let old = port_stream r.now.hunts r.now.units in
    let w : List Placed = r.now.units ++ byte_at at x ∷ [] in
    let new = port_stream r.now.hunts w in
    elim e.0 [
      | inl g ↦ inside_then front r at x g.fault (laws.port r at x Quiet [] none g
          (ap (λ i. cells_of_items None (items_of i)) g.items ∙ sym (append-nil (cells_in old)))
          ∙ append-nil (parts_in (of_stretches r))) (inside_parts front (with_units r w) (at + 1) g.fault e.1)
      | inr g ↦ inside_then front r at x g.fault (laws.port r at x Half [] none g (half_cells old new at g.items)
          ∙ append-nil (parts_in (of_stretches r))) (inside_parts front (with_units r w) (at + 1) g.fault e.1)
    ]

-- of a port that stood for a capture
module _ (old : RecoveringPort) (at : ℕ) (bytes : List ℕ) (f : List Placed) (inner : ℕ)
    (p : (r : Stretches) → ports.Stands old r → PassesFrame r at bytes f inner (id_of old)) where
  abbrev given : List Cell
  given = cells (units_of f) (offsets_of f) (id_of old)

  none_in : (r : Stretches) → ports.Stands old r → (port_stream r.now.hunts r.now.units).fault ≡ None
  none_in r k = ap (λ b. (port_stream b r.now.units).fault) (sym k.mode)
      ∙ none_before old.port r.now.units k.stands old.live

  pub frame_parts : (mode : FramesMode) (u : List Placed) → mode ≢ Bare → PortStands mode old u →
      parts_in (recovered mode (u ++ placed_from at bytes)) ≡ parts_in (recovered mode u) ++ map Run (runs_of given)
  frame_parts Bare u m k = absurd (m refl)
  frame_parts Aligned u m k =
      let r = port_stretches Aligned u in
      ap (λ s. parts_in (of_stretches s)) (port_more Aligned u (placed_from at bytes))
      ∙ stretch_parts r at bytes f inner (id_of old) (p r k) (none_in r k)
  frame_parts Hunt u m k =
      let r = port_stretches Hunt u in
      ap (λ s. parts_in (of_stretches s)) (port_more Hunt u (placed_from at bytes))
      ∙ stretch_parts r at bytes f inner (id_of old) (p r k) (none_in r k)

  pub frame_counts : (mode : FramesMode) (u : List Placed) → mode ≢ Bare → PortStands mode old u →
      GrowsByFrame (recovered mode u) (recovered mode (u ++ placed_from at bytes)) inner given
  frame_counts Bare u m k = absurd (m refl)
  frame_counts Aligned u m k =
      let r = port_stretches Aligned u in
      subst (λ s. GrowsByFrame (recovered Aligned u) (of_stretches s) inner given)
      (sym (port_more Aligned u (placed_from at bytes)))
      (stretch_counts r at bytes f inner (id_of old) (p r k) (none_in r k))
  frame_counts Hunt u m k =
      let r = port_stretches Hunt u in
      subst (λ s. GrowsByFrame (recovered Hunt u) (of_stretches s) inner given)
      (sym (port_more Hunt u (placed_from at bytes)))
      (stretch_counts r at bytes f inner (id_of old) (p r k) (none_in r k))

  late_by : (mode : FramesMode) (u : List Placed) (r : Stretches) (k : ports.Stands old r) → port_stretches mode u ≡ r →
      ((v : List Placed) → recovered mode v ≡ of_stretches (port_stretches mode v)) → EndsLast mode u at bytes
  late_by mode u r k e framed =
      let t = (p r k).fed in
      record {
        front = t.front;
        last = t.last;
        are = t.parts;
        quiet =
            ap parts_in (framed (u ++ placed_from at t.front))
            ∙ ap (λ s. parts_in (of_stretches s)) (port_more mode u (placed_from at t.front)
            ∙ ap (λ (s : Stretches). with_bytes s at t.front) e)
            ∙ inside_parts t.front r at (none_in r k) t.quiet
            ∙ ap (λ (s : Stretches). parts_in (of_stretches s)) (sym e) ∙ ap parts_in (sym (framed u));
      }

  pub frame_late : (mode : FramesMode) (u : List Placed) → mode ≢ Bare → PortStands mode old u → EndsLast mode u at bytes
  frame_late Bare u m k = absurd (m refl)
  frame_late Aligned u m k = late_by Aligned u (port_stretches Aligned u) k refl (λ v. refl)
  frame_late Hunt u m k = late_by Hunt u (port_stretches Hunt u) k refl (λ v. refl)
