use Rattle.std.proofs.Common.{◌≡◌, ◌∙◌, ℕ, List, [], length, sym, ap, subst, refl, arith, true, false, Bool}
use Rattle.std.proofs.Common.{cond, inl, inr, None}
use Rattle.std.specs.Prelude.{◌==◌, ◌&&◌, is_none}
use Rattle.trace_values.specs.declared.reading_modes.FramesMode.{FramesMode}
use Rattle.trace_values.specs.declared.reading_modes.FramesMode.TheVariants.{Bare}
use Rattle.trace_values.specs.Placed.{Placed}
use Rattle.deformatter.specs.PortReading.{port_reading}
use Rattle.source_counts.specs.Counts.{bytes_of, items_of}
use Rattle.source_counts.specs.declared.counts.Counts.{Counts}
use Rattle.source_events.specs.declared.packet.Packet.{Packet}
use Rattle.source_events.specs.declared.plan.Plan.{Plan}
use Rattle.source_events.specs.Plan.{sources_by}
use Rattle.source_events.specs.Report.{Mapped, stop_in}
use Rattle.source_events.specs.Tails.{items_in}
use Rattle.recovery_engine.specs.Engine as recovering
use Rattle.recovery_engine.proofs.PortCounts.{bare_is}
use Rattle.recovery_report.specs.Port.{frames_of, recovered}
use Rattle.recovery_laws.specs.Strict.{HasAsStrict}
use Rattle.recovery_laws.proofs.Captures as captures
use Rattle.recovery_laws.proofs.Ends.{has_sound}
use Rattle.source_merge.specs.Answering.{fault_of, report_of}
use Rattle.source_merge.specs.Counting.{maps_none}
use Rattle.source_merge.specs.Engine.{Stands, plan_of}
use Rattle.source_merge.specs.declared.engine.Engine.{Engine}
use Rattle.source_merge.proofs.Feds.{none_in}
use Rattle.source_merge.proofs.Taking.{bare_or}
use Rattle.source_merge.proofs.engine.Engine.counts.Goals as goal

both : (a b : Bool) → (a && b) ≡ true → (a ≡ true) × (b ≡ true)
both true true e = (refl, refl)
both true false e = cc
both false b e = cc

-- no source is mapped
no_sources : (plan : Plan) → maps_none plan ≡ true → sources_by plan ≡ []
no_sources plan e =
    let k = both (length plan.itm == 0) (length plan.stp == 0) e in
    ap (λ (xs : List ℕ). sources_by (record plan { itm = xs }))
    (none_in plan.itm (length plan.itm) refl k.0)
    ∙ ap (λ (xs : List ℕ). sources_by (record plan { itm = []; stp = xs }))
    (none_in plan.stp (length plan.stp) refl k.1)

-- then a capture with no formatter has no fault
no_fault : (plan : Plan) (u : List Placed) → sources_by plan ≡ [] → plan.frames ≡ Bare → fault_of plan u ≡ None
no_fault plan u none bare =
    ap (λ (ss : List (Mapped Packet)). stop_in ss (port_reading plan.frames u)) none
    ∙ ap (λ (m : FramesMode). stop_in {V = Packet} [] (port_reading m u)) bare

same_counts : (a b c d : ℕ) → a ≡ c → b ≡ d →
    (let x : Counts = record { bytes = a; items = b } in let y : Counts = record { bytes = c; items = d } in x ≡ y)
same_counts a b c d e f = cc

has_port : (self : Engine) (u : List Placed) → Stands self u → HasAsStrict (plan_of self).frames u
has_port self u h = elim (bare_or (plan_of self).frames) [
  | inl b ↦ subst (λ (m : FramesMode). HasAsStrict m u) (sym b) (has_sound Bare u refl)
  | inr b ↦ (h.framed b).1
]

pub returns-clause-value : goal.returns-clause-value
returns-clause-value c = λ u h.
    let self = c.args.self.now in
    let plan = plan_of self in
    let x = c.args.id in
    let whole = c.counts-whole.result in
    let same = (has_port self u h).frames in
    let told : (s : recovering.Stands self.recovery u) → whole ≡ (record {
      bytes = bytes_of x (frames_of (recovered plan.frames u));
      items = items_of x (frames_of (recovered plan.frames u));
    }) = λ s. c.counts-whole.ensures.value u s in
    same_counts c.bytes_of.result c.items_of.result _ _
    (elim (bare_or plan.frames) [
      | inl b ↦
          c.bytes_of.ensures.bare b ∙ ap (λ (n : ℕ). cond (1 == x) n 0) h.count
          ∙ ap (λ (k : Counts). k.bytes) (bare_is plan.frames x (cond (1 == x) (length u) 0) u b refl)
          ∙ ap (bytes_of x) same
      | inr b ↦
          c.bytes_of.ensures.framed b ∙ ap (λ (k : Counts). k.bytes) (told (h.framed b).0)
          ∙ ap (bytes_of x) same
    ])
    (by self u h x (maps_none plan) refl whole.items c.items_of.result
    (λ m. c.items_of.ensures.none m) (λ m. c.items_of.ensures.mapped m ∙ h.items m x (omega arith))
    (λ s. ap (λ (k : Counts). k.items) (told s) ∙ ap (items_of x) same)) where
      by : (self : Engine) (u : List Placed) (h : Stands self u) (x : ℕ) (t : Bool) → maps_none (plan_of self) ≡ t →
          (unmapped result : ℕ) → (maps_none (plan_of self) ≡ true → result ≡ unmapped) →
          (maps_none (plan_of self) ≡ false → result ≡ items_in x (report_of (plan_of self) u)) →
          (recovering.Stands self.recovery u → unmapped ≡ items_of x (port_reading (plan_of self).frames u).frames) →
          result ≡ items_in x (report_of (plan_of self) u)
      by self u h x false m unmapped result none mapped told = mapped m
      by self u h x true m unmapped result none mapped told =
          let plan = plan_of self in
          let empty = no_sources plan m in
          let stands : recovering.Stands self.recovery u = elim (bare_or plan.frames) [
            | inl b ↦ h.going (h.live ∙ ap is_none (no_fault plan u empty b))
            | inr b ↦ (h.framed b).0
          ] in
          none m ∙ told stands ∙ sym (captures.items_mapped plan self.sound 0 _ u h.rising empty x)
