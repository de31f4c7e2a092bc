-- What the port gives grows by the notice of its lock alone, at the byte with which it locks.
use Rattle.std.proofs.Common.{◌≡◌, ℕ, ◌+◌, ◌<◌, ◌≤◌, List, [], ◌∷◌, ◌++◌, length, refl, sym, ◌∙◌, ap, subst, inl, inr}
use Rattle.std.proofs.Common.{arith, append-nil, Bool, true, false, cond}
use Rattle.std.proofs.lemmas.List.{append_cancel_left}
use Rattle.trace_values.specs.Placed.{Place, Placed, byte_at, units_of}
use Rattle.trace_values.proofs.Readings as readings
use Rattle.trace_values.specs.declared.reading_modes.FramesMode.{FramesMode}
use Rattle.trace_values.specs.declared.reading_modes.FramesMode.TheVariants.{Hunt, Aligned, Bare}
use Rattle.frame_grammar.specs.Port.{PortItem, Full, Spells, why, start, rule}
use Rattle.frame_grammar.specs.Reading.{port_reading as grammar_reading}
use Rattle.frame_grammar.proofs.Deciding.{port_decided}
use Rattle.deformatter.specs.Growth.{HuntBy, place_at, AllEndAt}
use Rattle.deformatter.specs.Reading.{PortStream, port_stream}
use Rattle.deformatter.specs.declared.step.PortStep.{PortStep}
use Rattle.deformatter.specs.declared.step.PortStep.TheVariants.{Quiet, Half, Full as FullEnds, Frame}
use Rattle.deformatter.specs.declared.step.PortStep.TheVariants.{Locked as PortLocked, Fault}
use Rattle.deformatter.proofs.Readings.{hunt_is}
use Rattle.deformatter.proofs.ReadingLaws.{rises}
use Rattle.deformatter.specs.ByGrammar.{full_sync}
use Rattle.deformatter.specs.ReadingGrowth.{hunting}
use Rattle.deformatter.specs.PortReading.{PortReading, port_reading}
use Rattle.source_events.specs.Report.{lock_at, port_events, notice_by}
use Rattle.source_events.proofs.Locking.{units_append, front_of}

-- before the lock there is no item
pub unlocked : (u : List Placed) → (port_stream true u).locked ≡ false → (port_stream true u).items ≡ []
unlocked u e = elim (hunt_is u) [
  | inl m ↦ ap (λ (s : PortStream). s.items) m.1
  | inr (before, behind, parts, first, is) ↦ (let k = ap (λ (s : PortStream). s.locked) is in let h = e in cc)
]

-- and after it there is one
pub locked : (u : List Placed) → (port_stream true u).locked ≡ true → 0 < length (port_stream true u).items
locked u e = elim (hunt_is u) [
  | inl m ↦ (let k = ap (λ (s : PortStream). s.locked) m.1 in let h = e in cc)
  | inr (before, behind, parts, first, is) ↦
      (let units : units_of behind ≡ full_sync ++ first.stands.0 =
      append_cancel_left (units_of before) (units_of behind) (full_sync ++ first.stands.0)
      (sym (units_append before behind) ∙ ap units_of (sym parts) ∙ first.stands.1) in
      let one = one_item behind (front_of behind first.stands.0 units) in
      subst (λ (s : PortStream). 0 < length s.items) (sym is) one)
] where
  one_item : (v : List Placed) → ((full : List Placed) × (rest : List Placed) × (units_of full ≡ full_sync) × (v ≡ full ++ rest)) →
      0 < length (grammar_reading v).items
  one_item v (a ∷ (b ∷ (c ∷ (d ∷ []))), rest, e, parts) =
      let k = (readings.reading_is Spells why rule start port_decided v).longest ((Full, d.place) ∷ []) rest
      (a ∷ (b ∷ (c ∷ [])), d, rest, e, parts, refl, refl) in omega arith
  one_item v (full, rest, e, parts) = cc

abbrev one_more : List Placed → ℕ → ℕ → List Placed
one_more u at byte = u ++ byte_at at byte ∷ []

module _ {V : Type 0} where
  -- after the lock the notice stays
  pub same_notice : (old more new : List (PortItem × Place)) (m n : ℕ) → 0 < length old → new ≡ old ++ more → m ≡ n →
      lock_at {V = V} m new ≡ lock_at n old
  same_notice [] more new m n some e s = absurd (omega arith)
  same_notice (x ∷ old) more new m n some e s =
      ap (λ (l : List (PortItem × Place)). lock_at {V = V} m l) e
      ∙ ap (λ (k : ℕ). lock_at {V = V} k (x ∷ old)) s

  -- and at the lock it is this
  new_notice : (old more new : List (PortItem × Place)) (m n at : ℕ) → old ≡ [] → 0 < length new → new ≡ old ++ more →
      AllEndAt at more → m ≡ n → lock_at {V = V} m new ≡ notice_by at (PortLocked n)
  new_notice old [] new m n at none some e all s = absurd (let k : new ≡ [] = e ∙ append-nil old ∙ none in let h = some in subst (λ (l : List (PortItem × Place)). 0 < length l → ⊥) (sym k) (λ z. omega arith) h)
  new_notice old (x ∷ more) new m n at none some e all s =
      ap (λ (l : List (PortItem × Place)). lock_at {V = V} m l)
      (e ∙ ap (λ (l : List (PortItem × Place)). l ++ (x ∷ more)) none)
      ∙ ap (λ (k : ℕ). lock_at {V = V} k (x ∷ more)) s
      ∙ ap (λ (p : Place). lock_at {V = V} n ((x.0, p) ∷ more)) all.0

  module _ (u : List Placed) (at byte : ℕ) where
    reads_on : (port_stream true u).locked ≡ true → (port_stream true (one_more u at byte)).skipped ≡ (port_stream true u).skipped →
        port_events {V = V} Hunt (one_more u at byte) ≡ port_events Hunt u ++ []
    reads_on l s =
        let r = rises true u at byte in
        same_notice (port_stream true u).items r.more (port_stream true (one_more u at byte)).items (port_stream true (one_more u at byte)).skipped
        (port_stream true u).skipped (locked u l) r.items s
        ∙ sym (append-nil (port_events {V = V} Hunt u))

    none_yet : (port_stream true u).locked ≡ false → (port_stream true (one_more u at byte)).locked ≡ false →
        port_events {V = V} Hunt (one_more u at byte) ≡ port_events Hunt u ++ []
    none_yet l m =
        ap (λ (i : List (PortItem × Place)). lock_at {V = V} (port_stream true (one_more u at byte)).skipped i) (unlocked (one_more u at byte) m)
        ∙ ap (λ (i : List (PortItem × Place)). lock_at {V = V} (port_stream true u).skipped i ++ []) (sym (unlocked u l))

    by_lock : (b : Bool) → (port_stream true u).locked ≡ b → (port_stream true (one_more u at byte)).locked ≡ b →
        (port_stream true (one_more u at byte)).skipped ≡ cond b (port_stream true u).skipped ((port_stream true u).skipped + 1) →
        port_events {V = V} Hunt (one_more u at byte) ≡ port_events Hunt u ++ []
    by_lock true l m s = reads_on l s
    by_lock false l m s = none_yet l m

    -- what the port gives grows by what its step says
    pub port_grows : (mode : FramesMode) (step : PortStep) →
        HuntBy (hunting (port_reading mode u)) (hunting (port_reading mode (one_more u at byte))) at step →
        port_events {V = V} mode (one_more u at byte) ≡ port_events mode u ++ notice_by at step
    port_grows Hunt Quiet h =
        by_lock (port_stream true u).locked refl h.0 h.1
    port_grows Hunt Half h = reads_on h.before h.skipped
    port_grows Hunt FullEnds h = reads_on h.before h.skipped
    port_grows Hunt Frame h = reads_on h.before h.skipped
    port_grows Hunt (Fault f) h = reads_on h.2.before h.2.skipped
    port_grows Hunt (PortLocked n) h =
        let r = rises true u at byte in
        new_notice (port_stream true u).items r.more (port_stream true (one_more u at byte)).items (port_stream true (one_more u at byte)).skipped n at
        (unlocked u h.0) (locked (one_more u at byte) h.1) r.items r.all h.2
        ∙ ap (λ (i : List (PortItem × Place)). lock_at {V = V} (port_stream true u).skipped i ++ notice_by at (PortLocked n))
        (sym (unlocked u h.0))
    port_grows Aligned (PortLocked n) h = (let k = h.0 in cc)
    port_grows Aligned step h = refl
    port_grows Bare (PortLocked n) h = (let k = h.0 in cc)
    port_grows Bare step h = refl
