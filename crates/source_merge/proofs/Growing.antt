-- How the report up to the first fault grows with more bytes.
use Rattle.std.proofs.Common.{◌≡◌, ◌∙◌, ℕ, ◌+◌, List, [], ◌∷◌, ◌++◌, length, sym, ap, refl}
use Rattle.std.proofs.Common.{append_assoc, append-nil, Option, None, Some, true, false}
use Rattle.std.proofs.lemmas.List.{append_cancel_left}
use Rattle.trace_values.specs.declared.fault.Reason.{Reason}
use Rattle.trace_values.specs.Placed.{Place, Placed, byte_at, placed_from}
use Rattle.deformatter.specs.Block.{EachByte}
use Rattle.deformatter.specs.Rising.{BytesRise}
use Rattle.source_events.specs.declared.event.Event.{Event}
use Rattle.source_events.specs.declared.packet.Packet.{Packet}
use Rattle.source_events.specs.declared.plan.Plan.{Plan}
use Rattle.source_events.specs.Plan.{is_sound}
use Rattle.stretch_readings.specs.declared.heard.Heard.{Heard}
use Rattle.recovery_report.specs.Port.{recovered}
use Rattle.recovery_report.specs.Report.{Part, parts_in, report, report_from}
use Rattle.recovery_report.proofs.PartLaws.{report_append}
use Rattle.recovery_engine.proofs.Growing.{with_bytes}
use Rattle.recovery_engine.proofs.Rising.{rise_block}
use Rattle.recovery_laws.specs.Strict.{IsStrictBefore, first_fault, upto}
use Rattle.recovery_laws.proofs.Captures as captures
use Rattle.recovery_laws.proofs.Uptos.{after_none, after_some}
use Rattle.source_merge.specs.Answering.{Answers, fault_of, report_of}
use Rattle.source_merge.specs.declared.flow.Flow.TheVariants.{Going}

abbrev Heards : Type 0
Heards = List (Event (Heard Packet))

abbrev Full : Type 0
Full = Place × (Reason × Option ℕ)

abbrev parts_of : Plan → List Placed → List Part
parts_of plan u = parts_in (recovered plan.frames u)

-- what is added to nothing more is nothing
none_more : (xs ys zs : List Part) → (xs ++ ys) ++ zs ≡ xs → ys ≡ []
none_more xs ys zs e =
    first ys zs (append_cancel_left xs (ys ++ zs) [] (sym (append_assoc xs ys zs) ∙ e ∙ sym (append-nil xs))) where
      first : (ys zs : List Part) → ys ++ zs ≡ [] → ys ≡ []
      first [] zs h = refl
      first (y ∷ ys) zs h = cc

-- the recovering report of more bytes
pub grown : (plan : Plan) (u : List Placed) (at : ℕ) (xs : List ℕ) → (es : Heards) ×
    (report plan (u ++ placed_from at xs) ≡ report plan u ++ es)
grown plan u at xs =
    let m = with_bytes plan.frames u at xs in (
      report_from false plan (parts_of plan u) m.0,
      ap (report_from false plan []) m.1 ∙ report_append false plan (parts_of plan u) m.0 [],
    )

module _ (plan : Plan) (sound : is_sound plan ≡ true) where
  pub strict : (u : List Placed) (k : ℕ) → BytesRise 0 k u → IsStrictBefore plan u
  strict u k r = captures.before plan sound 0 k u r

  -- after bytes without a fault the report grows by what comes up to the first one
  pub grows : (u v : List Placed) (m n : ℕ) (es : Heards) → BytesRise 0 m u → BytesRise 0 n v →
      report plan v ≡ report plan u ++ es → fault_of plan u ≡ None →
      (report_of plan v ≡ report_of plan u ++ upto es) × (fault_of plan v ≡ first_fault es)
  grows u v m n es r s e none =
      let old = strict u m r in
      let new = strict v n s in
      let more = after_none (report plan u) es (sym old.fault ∙ none) in (
        new.events ∙ ap upto e ∙ more.0 ∙ ap (λ (l : List (Event Packet)). l ++ upto es) (sym old.events),
        new.fault ∙ ap first_fault e ∙ more.1,
      )

  -- a fault stays, and nothing comes after it
  pub stays : (u : List Placed) (at : ℕ) (xs : List ℕ) (f : Full) → BytesRise 0 at u → fault_of plan u ≡ Some f →
      (report_of plan (u ++ placed_from at xs) ≡ report_of plan u) × (fault_of plan (u ++ placed_from at xs) ≡ Some f)
  stays u at xs f r e =
      let g = grown plan u at xs in
      let old = strict u at r in
      let new = strict (u ++ placed_from at xs) (at + length xs) (rise_block u at xs r) in
      let more = after_some (report plan u) g.0 f (sym old.fault ∙ e) in (
        new.events ∙ ap upto g.1 ∙ more.0 ∙ sym old.events,
        new.fault ∙ ap first_fault g.1 ∙ more.1,
      )

  -- bytes with which no part of the capture is added
  same_parts : (u v : List Placed) (m n : ℕ) → BytesRise 0 m u → BytesRise 0 n v → parts_of plan v ≡ parts_of plan u →
      (report_of plan v ≡ report_of plan u) × (fault_of plan v ≡ fault_of plan u)
  same_parts u v m n r s e =
      let k : report plan v ≡ report plan u = ap (report_from false plan []) e in
      let old = strict u m r in
      let new = strict v n s in
      (new.events ∙ ap upto k ∙ sym old.events, new.fault ∙ ap first_fault k ∙ sym old.fault)

  pub quiet_fault : (u : List Placed) (at : ℕ) (xs : List ℕ) → BytesRise 0 at u →
      parts_of plan (u ++ placed_from at xs) ≡ parts_of plan u → fault_of plan u ≡ None →
      fault_of plan (u ++ placed_from at xs) ≡ None
  quiet_fault u at xs r e none =
      (same_parts u (u ++ placed_from at xs) at (at + length xs) r (rise_block u at xs r) e).1 ∙ none

  pub quiet_report : (u : List Placed) (at : ℕ) (xs : List ℕ) → BytesRise 0 at u →
      parts_of plan (u ++ placed_from at xs) ≡ parts_of plan u →
      report_of plan (u ++ placed_from at xs) ≡ report_of plan u
  quiet_report u at xs r e =
      (same_parts u (u ++ placed_from at xs) at (at + length xs) r (rise_block u at xs r) e).0

  pub quiet_bytes : (xs : List ℕ) (u : List Placed) (at : ℕ) → BytesRise 0 at u →
      parts_of plan (u ++ placed_from at xs) ≡ parts_of plan u → fault_of plan u ≡ None →
      EachByte (Answers plan [] Going) u at xs
  quiet_bytes [] u at r e none = tt
  quiet_bytes (b ∷ xs) u at r e none =
      let v : List Placed = u ++ byte_at at b ∷ [] in
      let one = with_bytes plan.frames u at (b ∷ []) in
      let rest = with_bytes plan.frames v (at + 1) xs in
      let all : parts_of plan (v ++ placed_from (at + 1) xs) ≡ parts_of plan u =
      ap (parts_of plan) (append_assoc u (byte_at at b ∷ []) (placed_from (at + 1) xs)) ∙ e in
      let both : (parts_of plan u ++ one.0) ++ rest.0 ≡ parts_of plan u =
      ap (λ (l : List Part). l ++ rest.0) (sym one.1) ∙ sym rest.1 ∙ all in
      let first : parts_of plan v ≡ parts_of plan u =
      one.1 ∙ ap (λ (l : List Part). parts_of plan u ++ l) (none_more (parts_of plan u) one.0 rest.0 both)
      ∙ append-nil (parts_of plan u) in
      let s : BytesRise 0 (at + 1) v = rise_block u at (b ∷ []) r in
      let same = same_parts u v at (at + 1) r s first in (
        record {
          events = same.0 ∙ sym (append-nil (report_of plan u));
          fault = same.1 ∙ none;
        },
        quiet_bytes xs v (at + 1) s (all ∙ sym first) (same.1 ∙ none),
      )
