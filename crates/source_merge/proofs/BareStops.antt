-- Where a capture with no formatter stops: with the byte of its first fault.
use Rattle.std.proofs.Common.{◌≡◌, ◌∙◌, ℕ, suc, ◌+◌, ◌<◌, ◌≤◌, List, [], ◌∷◌, ◌++◌, length, take, sym, ap, subst}
use Rattle.std.proofs.Common.{append_assoc, append-nil, Option, None, Some, true, false, refl, arith}
use Rattle.std.specs.Prelude.{Result, Ok, Err}
use Rattle.trace_values.specs.declared.fault.Reason.{Reason}
use Rattle.trace_values.specs.declared.reading_modes.FramesMode.{FramesMode}
use Rattle.trace_values.specs.declared.reading_modes.FramesMode.TheVariants.{Bare}
use Rattle.trace_values.specs.Placed.{Place, Placed, byte_at, placed_from}
use Rattle.deformatter.specs.PortReading.{bare_cell}
use Rattle.deformatter.specs.Rising.{BytesRise}
use Rattle.source_events.specs.declared.event.Event.{Event}
use Rattle.source_events.specs.declared.event.What.{What}
use Rattle.source_events.specs.declared.packet.Packet.{Packet}
use Rattle.source_events.specs.declared.plan.Plan.{Plan}
use Rattle.source_events.specs.Merge.{Below, From, place_of, start_of, told}
use Rattle.source_events.specs.Plan.{is_sound}
use Rattle.source_events.proofs.Merges.{below_told, from_told, grown_by}
use Rattle.stretch_readings.specs.declared.heard.Heard.{Heard}
use Rattle.recovering_machines.specs.Hearing.{as_strict}
use Rattle.recovery_report.specs.Port.{recovered}
use Rattle.recovery_report.specs.Report.{Part, Run, added, parts_in, report, report_from, said_by, whose}
use Rattle.recovery_report.proofs.Nearing.{parts_below}
use Rattle.recovery_report.proofs.PartLaws.{growing}
use Rattle.recovery_report.proofs.Parting.{parts_placed}
use Rattle.recovery_engine.proofs.Feeding.{bare_more}
use Rattle.recovery_engine.proofs.Rising.{rise_block}
use Rattle.recovery_laws.specs.Strict.{first_by, first_fault}
use Rattle.recovery_laws.proofs.Adding.{adds}
use Rattle.source_merge.specs.Answering.{fault_of, report_of}
use Rattle.source_merge.proofs.Growing.{grows, stays}

abbrev Heards : Type 0
Heards = List (Event (Heard Packet))

abbrev Full : Type 0
Full = Place × (Reason × Option ℕ)

-- the first fault of events between two offsets is between them
within : (es : Heards) (n k : ℕ) (f : Full) → From n es → Below k es → first_fault es ≡ Some f →
    (n ≤ f.0.at) × (f.0.at < k)
within [] n k f from below e = cc
within (x ∷ es) n k f from below e =
    by (as_strict x.what) (λ h. within es n k f from.1 below.1 h) e where
      by : (o : Result (What Packet) Reason) → (first_fault es ≡ Some f → (n ≤ f.0.at) × (f.0.at < k)) →
          first_by x o (first_fault es) ≡ Some f → (n ≤ f.0.at) × (f.0.at < k)
      by (Ok what) more h = more h
      by (Err reason) more h =
          let q : (place_of x, (reason, x.source)) ≡ f = cc in
          let a : x.at ≡ f.0.at = ap (λ (g : Full). g.0.at) q in
          (subst (λ (m : ℕ). n ≤ m) a from.0, subst (λ (m : ℕ). m < k) a below.0)

-- With these bytes, which follow u from this offset on, the report has this fault. So it has with the first bytes up to
-- its own, and with fewer it has none.
pub record Stops (plan : Plan) (u : List Placed) (at : ℕ) (xs : List ℕ) (f : Full) : Type 0 where
  pub count : ℕ
  pub place : f.0.at ≡ at + count
  pub few : count < length xs
  pub sound : fault_of plan (u ++ placed_from at (take count xs)) ≡ None
  pub fault : fault_of plan (u ++ placed_from at (take (suc count) xs)) ≡ Some f
  pub same : report_of plan (u ++ placed_from at (take (suc count) xs)) ≡ report_of plan (u ++ placed_from at xs)

module _ (plan : Plan) (sound : is_sound plan ≡ true) (bare : plan.frames ≡ Bare) where
  -- a fault that comes with a byte is there
  here : (u : List Placed) (at byte : ℕ) (f : Full) → BytesRise 0 at u → fault_of plan u ≡ None →
      fault_of plan (u ++ byte_at at byte ∷ []) ≡ Some f → f.0.at ≡ at
  here u at byte f r none e =
      let b = byte_at at byte in
      let m : Part = Run (bare_cell b ∷ []) in
      let ps = parts_in (recovered plan.frames u) in
      let parts : parts_in (recovered plan.frames (u ++ b ∷ [])) ≡ ps ++ m ∷ [] =
      subst (λ (k : FramesMode). parts_in (recovered k (u ++ b ∷ [])) ≡ parts_in (recovered k u) ++ m ∷ []) (sym bare)
      (bare_more (b ∷ []) u) in
      let grew : report plan (u ++ b ∷ []) ≡ report plan u ++ added false plan ps m =
      ap (report_from false plan []) parts ∙ growing false plan ps m in
      let k = grows plan sound u (u ++ b ∷ []) at (at + 1) (added false plan ps m) r (rise_block u at (byte ∷ []) r)
      grew none in
      let own = whose m in
      let a = adds false plan own at ps m (parts_below plan ps at (parts_placed plan.frames u 0 at r))
      ((omega arith), tt) in
      let w = within (told own a.more) at (at + 1) f
      (from_told own (at + 1) at (start_of at) a.more a.all (omega arith))
      (below_told own (at + 1) (at + 1) (start_of at) a.more a.all (omega arith))
      (ap first_fault (sym (grown_by (said_by false plan) ps m own a.more a.given)) ∙ sym k.1 ∙ e) in
      (let x = w.0 in let y = w.1 in omega (arith, x, y))

  pub stops : (xs : List ℕ) (u : List Placed) (at : ℕ) (f : Full) → BytesRise 0 at u → fault_of plan u ≡ None →
      fault_of plan (u ++ placed_from at xs) ≡ Some f → Stops plan u at xs f
  stops [] u at f r none e =
      absurd (let k : fault_of plan u ≡ Some f = ap (fault_of plan) (sym (append-nil u)) ∙ e in cc)
  stops (b ∷ xs) u at f r none e =
      by (λ h. stops xs v (at + 1) f s h (ap (fault_of plan) (all xs) ∙ e)) (fault_of plan v) refl where
        v : List Placed
        v = u ++ byte_at at b ∷ []

        s : BytesRise 0 (at + 1) v
        s = rise_block u at (b ∷ []) r

        all : (ys : List ℕ) → v ++ placed_from (at + 1) ys ≡ u ++ placed_from at (b ∷ ys)
        all ys = append_assoc u (byte_at at b ∷ []) (placed_from (at + 1) ys)

        by : (fault_of plan v ≡ None → Stops plan v (at + 1) xs f) → (o : Option Full) → fault_of plan v ≡ o →
            Stops plan u at (b ∷ xs) f
        by more None h =
            let k = more h in
            record {
              count = suc k.count;
              place = (let x = k.place in omega (arith, x));
              few = (let x = k.few in let y : suc k.count < suc (length xs) = omega (arith, x) in y);
              sound = ap (fault_of plan) (sym (all (take k.count xs))) ∙ k.sound;
              fault = ap (fault_of plan) (sym (all (take (suc k.count) xs))) ∙ k.fault;
              same =
                  ap (report_of plan) (sym (all (take (suc k.count) xs))) ∙ k.same ∙ ap (report_of plan) (all xs);
            }
        by more (Some g) h =
            let k = stays plan sound v (at + 1) xs g s h in
            let same : g ≡ f = (let q : Some g ≡ Some f = sym k.1 ∙ ap (fault_of plan) (all xs) ∙ e in cc) in
            record {
              count = 0;
              place = (let x = here u at b f r none (h ∙ ap Some same) in omega (arith, x));
              few = omega arith;
              sound = ap (fault_of plan) (append-nil u) ∙ none;
              fault = h ∙ ap Some same;
              same = sym k.0 ∙ ap (report_of plan) (all xs);
            }
