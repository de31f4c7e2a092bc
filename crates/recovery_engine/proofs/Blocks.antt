-- Bytes of the port that are taken at once: all but the last add nothing.
use Rattle.std.proofs.Common.{◌≡◌, ◌≢◌, ℕ, ◌+◌, ◌-◌, List, [], ◌∷◌, ◌++◌, refl, sym, ◌∙◌, ap, subst, arith}
use Rattle.std.proofs.Common.{append_assoc, append-nil, length, None}
use Rattle.std.proofs.lemmas.List.{length_push}
use Rattle.trace_values.specs.declared.cell.Cell.{Cell}
use Rattle.trace_values.specs.Placed.{Placed, byte_at, placed_from}
use Rattle.trace_values.specs.declared.reading_modes.FramesMode.{FramesMode}
use Rattle.trace_values.specs.declared.reading_modes.FramesMode.TheVariants.{Hunt, Aligned, Bare}
use Rattle.deformatter.specs.Block as block
use Rattle.deformatter.specs.Block.{EachByte, FedAs}
use Rattle.deformatter.specs.Growth.{PortGrows}
use Rattle.deformatter.specs.Reading.{cells_in, items_of, port_stream}
use Rattle.deformatter.specs.Names.{cells_of_items}
use Rattle.deformatter.specs.declared.step.PortStep.{PortStep}
use Rattle.deformatter.specs.declared.step.PortStep.TheVariants.{Quiet}
use Rattle.stretch_readings.specs.Stretches.{One, Stretches, fed}
use Rattle.recovering_machines.specs.Port as ports
use Rattle.recovering_machines.specs.Port.{Answers, IsFed, from_halfword, items_by, raised, with_bytes, with_units}
use Rattle.recovering_machines.specs.declared.port.RecoveringPort.{RecoveringPort}
use Rattle.recovering_machines.proofs.Feeding as feeding
use Rattle.recovering_machines.proofs.Feeding.{none_before, quiet_goes}
use Rattle.recovery_report.specs.Counts.{CountsGrow}
use Rattle.recovery_report.specs.Port.{of_stretches, port_stretches, recovered}
use Rattle.recovery_report.specs.Report.{parts_in}
use Rattle.recovery_report.specs.Words.{parts_by}
use Rattle.recovery_report.proofs.CountLaws as count_laws
use Rattle.recovery_report.proofs.PortLaws as port_laws
use Rattle.recovery_engine.specs.Front.{EndsLast}
use Rattle.recovery_engine.specs.Port.{PortStands}
use Rattle.recovery_engine.proofs.Feeding as parts
use Rattle.recovery_engine.proofs.Feeding.{port_more}
use Rattle.recovery_engine.proofs.PortCounts as counts
use Rattle.recovery_engine.proofs.PortCounts.{counts_none, counts_then}

-- a port that ended nothing since these stretches
record IsSame (r s : Stretches) : Type 0 where
  parts : parts_in (of_stretches s) ≡ parts_in (of_stretches r)
  counts : CountsGrow (of_stretches r) (of_stretches s) Quiet []
  cells : cells_in (port_stream s.now.hunts s.now.units) ≡ cells_in (port_stream r.now.hunts r.now.units)

front_same : (front : List ℕ) (r : Stretches) (at : ℕ) → (port_stream r.now.hunts r.now.units).fault ≡ None →
    EachByte (block.Answers r.now.hunts Quiet) r.now.units at front →
    IsSame r (with_units r (r.now.units ++ placed_from at front))
front_same [] r at none e = subst (λ (u : List Placed). IsSame r (with_units r u)) (sym (append-nil r.now.units))
    (record { parts = refl; counts = counts_none (of_stretches r); cells = refl })
front_same (x ∷ front) r at none e =
    let h = r.now.hunts in
    let b = byte_at at x in
    let w : List Placed = r.now.units ++ b ∷ [] in
    let g : PortGrows (port_stream h r.now.units) (port_stream h w) at Quiet = e.0 in
    let none_more : cells_in (port_stream h w) ≡ cells_in (port_stream h r.now.units) ++ [] =
    ap (λ i. cells_of_items None (items_of i)) g.items ∙ sym (append-nil (cells_in (port_stream h r.now.units))) in
    let one = quiet_goes r at x g in
    let rest = front_same front (with_units r w) (at + 1) g.fault e.1 in
    subst (λ (u : List Placed). IsSame r (with_units r u))
    (append_assoc r.now.units (b ∷ []) (placed_from (at + 1) front))
    (record {
      parts = rest.parts ∙ ap (λ (s : Stretches). parts_in (of_stretches s)) (sym one)
          ∙ port_laws.port r at x Quiet [] none g none_more ∙ append-nil (parts_in (of_stretches r));
      counts =
          counts_then (of_stretches r) (of_stretches (with_units r w))
          (of_stretches (with_units r (w ++ placed_from (at + 1) front))) Quiet []
          (subst (λ (s : Stretches). CountsGrow (of_stretches r) (of_stretches s) Quiet []) one
          (count_laws.counts r at x Quiet [] none g none_more)) rest.counts;
      cells = rest.cells ∙ none_more ∙ append-nil (cells_in (port_stream h r.now.units));
    })

-- what they end is what the last of them ends
module _ (old : RecoveringPort) (at : ℕ) (bytes : List ℕ) (step : PortStep) (cells : List Cell)
    (f : (r : Stretches) → ports.Stands old r → IsFed r at bytes step)
    (c : (r : Stretches) → ports.Stands old r →
    cells_in (port_stream r.now.hunts (r.now.units ++ placed_from at bytes))
    ≡ cells_in (port_stream r.now.hunts r.now.units) ++ cells) where
  module _ (r : Stretches) (k : ports.Stands old r) where
    abbrev t : IsFed r at bytes step
    t = f r k

    abbrev own : PortStep
    own = t.ends.own

    abbrev fed_so : FedAs (block.Answers r.now.hunts Quiet) (block.Answers r.now.hunts own) r.now.units at bytes
    fed_so = record { front = t.front; last = t.last; parts = t.parts; quiet = t.quiet; ends = t.ends.grows }

    none : (port_stream r.now.hunts r.now.units).fault ≡ None
    none = ap (λ h. (port_stream h r.now.units).fault) (sym k.mode) ∙ none_before old.port r.now.units k.stands old.live

    abbrev here : List Placed
    here = r.now.units ++ placed_from at t.front

    abbrev mid : Stretches
    mid = with_units r here

    abbrev place : ℕ
    place = at + length t.front

    abbrev last : Placed
    last = byte_at place t.last

    same : IsSame r mid
    same = front_same t.front r at none t.quiet

    split : with_bytes r at bytes ≡ fed items_by from_halfword mid (One last)
    split = feeding.split r at bytes own none fed_so

    before : (port_stream r.now.hunts here).fault ≡ None
    before = feeding.before r at bytes own none fed_so

    given : cells_in (port_stream r.now.hunts (here ++ last ∷ [])) ≡ cells_in (port_stream r.now.hunts here) ++ cells
    given =
        ap (λ (v : List Placed). cells_in (port_stream r.now.hunts v)) (sym (feeding.all r at bytes own none fed_so))
        ∙ c r k ∙ ap (λ l. l ++ cells) (sym same.cells)

    -- it is at the last offset
    offset : (n : ℕ) → length bytes ≡ n → place ≡ at + (n - 1)
    offset n e =
        let a : length bytes ≡ length t.front + 1 = ap length t.parts
        ∙ length_push t.front t.last in omega (arith, a, e)

    pub block_parts : (n : ℕ) → length bytes ≡ n →
        parts_in (of_stretches (with_bytes r at bytes))
        ≡ parts_in (of_stretches r) ++ parts_by 0 (at + (n - 1)) step cells
    block_parts n e =
        ap (λ (s : Stretches). parts_in (of_stretches s)) split
        ∙ port_laws.port mid place t.last own cells before t.ends.grows given
        ∙ ap (λ l. l ++ parts_by r.now.count place own cells) same.parts
        ∙ ap (λ l. parts_in (of_stretches r) ++ l) (parts.by_raised r.now.count place own cells
        ∙ ap (λ s. parts_by 0 place s cells) (sym t.ends.is) ∙ ap (λ m. parts_by 0 m step cells) (offset n e))

    pub block_counts : CountsGrow (of_stretches r) (of_stretches (with_bytes r at bytes)) step cells
    block_counts =
        subst (λ (s : Stretches). CountsGrow (of_stretches r) (of_stretches s) step cells) (sym split)
        (subst (λ s. CountsGrow (of_stretches r) (of_stretches (fed items_by from_halfword mid (One last))) s cells)
        (sym t.ends.is)
        (counts.by_raised (of_stretches r) (of_stretches (fed items_by from_halfword mid (One last))) r.now.count own
        cells (counts_then (of_stretches r) (of_stretches mid)
        (of_stretches (fed items_by from_halfword mid (One last))) own cells same.counts
        (count_laws.counts mid place t.last own cells before t.ends.grows given))))

  pub framed_parts : (mode : FramesMode) (u : List Placed) (n : ℕ) → mode ≢ Bare → length bytes ≡ n →
      PortStands mode old u → parts_in (recovered mode (u ++ placed_from at bytes))
      ≡ parts_in (recovered mode u) ++ parts_by 0 (at + (n - 1)) step cells
  framed_parts Bare u n m e k = absurd (m refl)
  framed_parts Aligned u n m e k = ap (λ r. parts_in (of_stretches r)) (port_more Aligned u (placed_from at bytes))
      ∙ block_parts (port_stretches Aligned u) k n e
  framed_parts Hunt u n m e k = ap (λ r. parts_in (of_stretches r)) (port_more Hunt u (placed_from at bytes))
      ∙ block_parts (port_stretches Hunt u) k n e

  late_by : (mode : FramesMode) (u : List Placed) (r : Stretches) (k : ports.Stands old r) → port_stretches mode u ≡ r →
      ((v : List Placed) → recovered mode v ≡ of_stretches (port_stretches mode v)) → EndsLast mode u at bytes
  late_by mode u r k e framed = record {
    front = (t r k).front;
    last = (t r k).last;
    are = (t r k).parts;
    quiet =
        ap parts_in (framed (u ++ placed_from at (t r k).front))
        ∙ ap (λ s. parts_in (of_stretches s)) (port_more mode u (placed_from at (t r k).front)
        ∙ ap (λ (s : Stretches). with_bytes s at (t r k).front) e
        ∙ (feeding.front_goes (t r k).front r at (none r k) (t r k).quiet).0)
        ∙ (same r k).parts ∙ ap (λ (s : Stretches). parts_in (of_stretches s)) (sym e) ∙ ap parts_in (sym (framed u));
  }

  pub framed_counts : (mode : FramesMode) (u : List Placed) → mode ≢ Bare → PortStands mode old u →
      CountsGrow (recovered mode u) (recovered mode (u ++ placed_from at bytes)) step cells
  framed_counts Bare u m k = absurd (m refl)
  framed_counts Aligned u m k =
      subst (λ r. CountsGrow (recovered Aligned u) (of_stretches r) step cells)
      (sym (port_more Aligned u (placed_from at bytes))) (block_counts (port_stretches Aligned u) k)
  framed_counts Hunt u m k =
      subst (λ r. CountsGrow (recovered Hunt u) (of_stretches r) step cells)
      (sym (port_more Hunt u (placed_from at bytes))) (block_counts (port_stretches Hunt u) k)

  -- all but the last of them end nothing
  pub framed_late : (mode : FramesMode) (u : List Placed) → mode ≢ Bare → PortStands mode old u →
      EndsLast mode u at bytes
  framed_late Bare u m k = absurd (m refl)
  framed_late Aligned u m k = late_by Aligned u (port_stretches Aligned u) k refl (λ v. refl)
  framed_late Hunt u m k = late_by Hunt u (port_stretches Hunt u) k refl (λ v. refl)

-- what a port stands for after them
pub port_list : (old new : RecoveringPort) (u : List Placed) (at : ℕ) (bytes : List ℕ) (mode : FramesMode) →
    ((r : Stretches) → ports.Stands old r → ports.Stands new (with_bytes r at bytes)) → PortStands mode old u →
    PortStands mode new (u ++ placed_from at bytes)
port_list old new u at bytes Bare f k = tt
port_list old new u at bytes Aligned f k =
    subst (λ r. ports.Stands new r) (sym (port_more Aligned u (placed_from at bytes))) (f (port_stretches Aligned u) k)
port_list old new u at bytes Hunt f k =
    subst (λ r. ports.Stands new r) (sym (port_more Hunt u (placed_from at bytes))) (f (port_stretches Hunt u) k)
