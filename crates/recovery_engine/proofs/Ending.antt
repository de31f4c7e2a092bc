-- How the port and the mapped sources end.
use Rattle.std.proofs.Common.{◌≡◌, ◌≢◌, ℕ, zero, suc, ◌+◌, ◌≤◌, List, [], ◌∷◌, ◌++◌, refl, sym, ◌∙◌, ap, subst, arith}
use Rattle.std.proofs.Common.{append_assoc, append-nil, map, Option, None, Some, Bool, true, cond}
use Rattle.std.specs.Prelude.{flat_map, is_some, IfSome, ◌==◌}
use Rattle.std.specs.List.{range_with_len, sum_by}
use Rattle.std.proofs.lemmas.List.Sums.{sum_by-append}
use Rattle.trace_values.specs.Placed.{Placed}
use Rattle.trace_values.specs.Stream.{Stream}
use Rattle.trace_values.specs.declared.reading_modes.FramesMode.{FramesMode}
use Rattle.trace_values.specs.declared.reading_modes.FramesMode.TheVariants.{Hunt, Aligned, Bare}
use Rattle.deformatter.specs.Reading.{port_stream}
use Rattle.source_events.specs.declared.packet.Packet.{Packet}
use Rattle.source_events.specs.declared.plan.Plan.{Plan}
use Rattle.source_events.specs.declared.plan.SourceKind.{SourceKind}
use Rattle.source_events.specs.declared.port_mode.PortMode.{PortMode}
use Rattle.source_events.specs.declared.tails.SourceTail.{SourceTail}
use Rattle.source_events.specs.Plan as plans
use Rattle.stretch_readings.specs.Stretches.{Stretch, Stretches, heard_of, from_fault, lost_in, skipped_in}
use Rattle.recovering_machines.specs.Port as ports
use Rattle.recovering_machines.specs.Port.{items_by, from_halfword}
use Rattle.recovering_machines.specs.Mapped.{heard_by, kind_of, total_of}
use Rattle.recovering_machines.specs.declared.port.RecoveringPort.{RecoveringPort}
use Rattle.recovering_machines.specs.declared.mapped.MappedSource.{MappedSource}
use Rattle.recovery_report.specs.Port.{PortStretch, of_stretches, port_stretches, recovered, skipped_of, stretch_of}
use Rattle.recovery_report.specs.Report.{Part, mode_by, source_tails, stretches_of, tail_by, tail_of}
use Rattle.recovery_engine.specs.Ends.{EndsAs, all_of, end_of}
use Rattle.recovery_engine.specs.Port.{PortStands}
use Rattle.recovery_engine.specs.Slots.{IsSource, StandsAt, source_at, total}
use Rattle.recovery_engine.specs.declared.ends.PortEnd.{PortEnd}
use Rattle.recovery_engine.specs.declared.slot.RecoveringSlot.{RecoveringSlot}

-- what the stretches of a port that are over skipped
lost_in_all : (past : List Stretch) → sum_by (λ (s : PortStretch). s.lost) (map stretch_of past)
    ≡ sum_by (lost_in items_by from_halfword) past
lost_in_all [] = refl
lost_in_all (s ∷ past) =
    (let a = sum_by-append (λ (t : PortStretch). t.lost) (stretch_of s ∷ []) (map stretch_of past) in
    let b = sum_by-append (lost_in items_by from_halfword) (s ∷ []) past in let k = lost_in_all past in
    omega (arith, a, b, k))

same_end : (m n : PortMode) (s k t v : ℕ) → m ≡ n → s ≡ k → t ≡ v →
    (let a : PortEnd = record { mode = m; skipped = s; tail = t } in
    let b : PortEnd = record { mode = n; skipped = k; tail = v } in a ≡ b)
same_end m n s k t v e f g = cc

module _ (port : RecoveringPort) (u : List Placed) (m : PortMode) (s t : ℕ)
    (mode_is : (r : Stretches) → ports.Stands port r →
    m ≡ mode_by r.now.hunts (port_stream r.now.hunts r.now.units).locked)
    (skipped_is : (r : Stretches) → ports.Stands port r →
    s ≡ sum_by (lost_in items_by from_halfword) r.past + skipped_in items_by from_halfword r.now)
    (tail_is : (r : Stretches) → ports.Stands port r → t ≡ (port_stream r.now.hunts r.now.units).tail) where
  one : (r : Stretches) → ports.Stands port r → (let p = of_stretches r in
      let b : PortEnd = record {
        mode = mode_by p.now.hunts p.now.reading.locked;
        skipped = skipped_of p;
        tail = p.now.reading.tail;
      } in
      let a : PortEnd = record { mode = m; skipped = s; tail = t } in a ≡ b)
  one r k = same_end m _ s _ t _ (mode_is r k)
      (skipped_is r k ∙ ap (λ n. n + skipped_in items_by from_halfword r.now) (sym (lost_in_all r.past))) (tail_is r k)

  pub port_ends : (mode : FramesMode) → mode ≢ Bare → PortStands mode port u →
      (let a : PortEnd = record { mode = m; skipped = s; tail = t } in a ≡ end_of mode (recovered mode u))
  port_ends Bare n k = absurd (n refl)
  port_ends Aligned n k = one (port_stretches Aligned u) k
  port_ends Hunt n k = one (port_stretches Hunt u) k

-- a source
same_tail : (x : ℕ) (kind : SourceKind) (m n : PortMode) (s k t v : ℕ) → m ≡ n → s ≡ k → t ≡ v →
    (let a : SourceTail = record { id = x; kind = kind; mode = m; skipped = s; tail = t } in
    let b : SourceTail = record { id = x; kind = kind; mode = n; skipped = k; tail = v } in a ≡ b)
same_tail x kind m n s k t v e f g = cc

pub source_ends : (guesses : Bool) (plan : Plan) (parts : List Part) (x : ℕ) (s : MappedSource) (kind : SourceKind)
    (m : PortMode) (skipped tail : ℕ) → IsSource guesses plan parts x s → kind_of s ≡ kind →
    (let r = stretches_of plan (kind_of s) x parts in
    m ≡ mode_by r.now.hunts (heard_by s r).locked → skipped ≡ (heard_by s r).skipped → tail ≡ (heard_by s r).held →
    (let a : SourceTail = record { id = x; kind = kind; mode = m; skipped = skipped; tail = tail } in
    a ≡ tail_of plan parts x kind))
source_ends guesses plan parts x s kind m skipped tail k e f g h =
    let r = stretches_of plan (kind_of s) x parts in
    subst (λ (z : SourceKind). (let a : SourceTail = record {
      id = x;
      kind = z;
      mode = m;
      skipped = skipped;
      tail = tail;
    } in a ≡ tail_of plan parts x z)) e
    (same_tail x (kind_of s) m _ skipped _ tail _
    (f ∙ ap (λ (z : Bool → List Placed → Stream Packet). mode_by r.now.hunts (heard_of z from_fault r).locked) k.reads)
    (g ∙ ap (λ (z : Bool → List Placed → Stream Packet). (heard_of z from_fault r).skipped) k.reads)
    (h ∙ ap (λ (z : Bool → List Placed → Stream Packet). (heard_of z from_fault r).held) k.reads))

-- one of the slots, or a further one
pub ends_at : (x : ℕ) (kind : SourceKind) (s : RecoveringSlot) (rest : List RecoveringSlot) (b : Bool)
    (t : Option SourceTail) → (s.id == x) ≡ b → EndsAs x kind (cond b (Some s.source) (source_at rest x)) t →
    EndsAs x kind (source_at (s ∷ rest) x) t
ends_at x kind s rest b t e k =
    subst (λ (c : Bool). EndsAs x kind (cond c (Some s.source) (source_at rest x)) t) (sym e) k

-- the tail of a number, by the slots
module _ (plan : Plan) (x : ℕ) (kind : SourceKind) (named : plans.kind_of plan x ≡ Some kind) where
  pub there : (o : Option MappedSource) (t : Option SourceTail) → EndsAs x kind o t →
      IfSome t (λ tail. is_some o ≡ true)
  there None None e = tt
  there None (Some t) e = (let k : Some t ≡ None = e in cc)
  there (Some s) None e = tt
  there (Some s) (Some t) e = refl

  pub tail_is : (guesses : Bool) (parts : List Part) (o : Option MappedSource) (t : Option SourceTail) →
      EndsAs x kind o t → StandsAt guesses plan parts x o → all_of t ≡ tail_by plan parts x (plans.kind_of plan x)
  tail_is guesses parts None t e k = (let q : None ≡ Some kind = sym k ∙ named in cc)
  tail_is guesses parts (Some s) t e k =
      let q : Some (kind_of s) ≡ Some kind = sym k.kind ∙ named in
      let same : kind_of s ≡ kind = cc in
      ap (λ (z : Option SourceTail). all_of z) (e guesses plan parts k same) ∙ ap (tail_by plan parts x) (sym named)

-- a source holds and skipped no more than all of them
pub within_total : (slots : List RecoveringSlot) (s : RecoveringSlot) (rest : List RecoveringSlot) →
    slots ≡ s ∷ rest → (total_of s.source ≤ total slots) × (total rest ≤ total slots)
within_total slots s rest e = (let k = ap total e in (omega (arith, k), omega (arith, k)))

-- the tails of one more number
module _ (plan : Plan) (parts : List Part) where
  abbrev one_tail : ℕ → List SourceTail
  one_tail x = tail_by plan parts x (plans.kind_of plan x)

  tails_from : (a n : ℕ) → flat_map one_tail (range_with_len a (suc n))
      ≡ flat_map one_tail (range_with_len a n) ++ one_tail (a + n)
  tails_from a zero = append-nil (one_tail a) ∙ ap one_tail (let e : a ≡ a + 0 = omega arith in e)
  tails_from a (suc n) =
      ap (λ (l : List SourceTail). one_tail a ++ l) (tails_from (a + 1) n)
      ∙ sym (append_assoc (one_tail a) (flat_map one_tail (range_with_len (a + 1) n)) (one_tail (a + 1 + n)))
      ∙ ap (λ (k : ℕ). (one_tail a ++ flat_map one_tail (range_with_len (a + 1) n)) ++ one_tail k)
      (let e : a + 1 + n ≡ a + suc n = omega arith in e)

  pub no_tails : [] ≡ source_tails plan parts 0
  unfolding source_tails
  no_tails = refl

  pub tails_more : (n : ℕ) → source_tails plan parts (n + 1) ≡ source_tails plan parts n ++ one_tail n
  unfolding source_tails
  tails_more n =
      ap (λ (m : ℕ). flat_map one_tail (range_with_len 0 m)) (let e : n + 1 ≡ suc n = omega arith in e)
      ∙ tails_from 0 n
      ∙ ap (λ (m : ℕ). source_tails plan parts n ++ one_tail m) (let e : 0 + n ≡ n = omega arith in e)
