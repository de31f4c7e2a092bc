-- What a block of an engine is for the report of the capture.
use Rattle.std.proofs.Common.{◌≡◌, ℕ, suc, ◌+◌, List, [], ◌∷◌, ◌++◌, length, refl, sym, ◌∙◌, ap, subst, append_assoc}
use Rattle.std.proofs.Common.{arith, Option, None, Some, true, false}
use Rattle.std.specs.Prelude.{is_none, option_map}
use Rattle.std.specs.Option.{is_some}
use Rattle.capture_actions.proofs.Ports.{next_bytes}
use Rattle.capture_actions.specs.Names.{Reason, Place, Placed, placed_from, placed, FaultAfter}
use Rattle.capture_actions.specs.Names.{offsets_of, Event, Stop, Packet, Plan, stop_of, report_of, fault_of, Going}
use Rattle.capture_actions.specs.Names.{Engine, Stands, is_live, plan_of}
use Rattle.deformatter.specs.Rising.{end_at}
use Rattle.source_merge.specs.Answering.{fault_by, flow_to, goes_on as is_on}
use Rattle.source_merge.specs.declared.flow.Flow.{Flow}
use Rattle.source_merge.specs.declared.flow.Flow.TheVariants.{Stopped}
use Rattle.source_merge.specs.Engine.{next_of}
use Rattle.source_merge.specs.Front.{Reads}
use Rattle.capture_actions.specs.CaptureReading.{IsLive}
use Rattle.capture_actions.specs.CaptureReading.{Stands as HasRead}
use Rattle.capture_actions.specs.declared.reading.CaptureReading.{CaptureReading}
use Rattle.capture_actions.specs.Faulty.{IsFaulty}

abbrev pub Fault : Type 0
Fault = Option (Place × (Reason × Option ℕ))

end_from : (at : ℕ) (bytes : List ℕ) → end_at at (offsets_of (placed_from at bytes)) ≡ at + length bytes
end_from at [] = (let k : at ≡ at + 0 = omega arith in k)
end_from at (b ∷ bytes) = end_from (at + 1) bytes ∙ (let k : at + 1 + length bytes ≡ at + suc (length bytes) = omega arith in k)

pub capture_end : (bytes : List ℕ) → end_at 0 (offsets_of (placed bytes)) ≡ length bytes
capture_end bytes = end_from 0 bytes ∙ (let k : 0 + length bytes ≡ length bytes = omega arith in k)

-- whether a fault is certain with the last of these bytes
module _ (plan : Plan) (seen bytes : List ℕ) (at : ℕ) (given : List (Event Packet)) (flow : Flow) (e : at ≡ length seen)
    (reads : Reads plan (placed seen) at bytes given flow) where
  pub report_grew : report_of plan (placed (seen ++ bytes)) ≡ report_of plan (placed seen) ++ given
  report_grew = ap (report_of plan) (sym (next_bytes seen bytes at e)) ∙ reads.grew

  pub fault_after : fault_of plan (placed (seen ++ bytes)) ≡ fault_by flow
  fault_after = ap (fault_of plan) (sym (next_bytes seen bytes at e)) ∙ reads.fault

  pub goes_on : flow ≡ Going → FaultAfter (IsFaulty plan) (seen ++ bytes) false
  goes_on g h = (let k : fault_of plan (placed (seen ++ bytes)) ≡ None = fault_after ∙ ap fault_by g in
      let l = ap (λ (o : Fault). is_none o) k in let m = h in cc)

  pub ends : (stop : Stop) → flow ≡ Stopped stop → FaultAfter (IsFaulty plan) (seen ++ bytes) true
  ends stop g = let certain = reads.certain (ap is_on g) in record {
    front = seen ++ certain.front;
    last = certain.last;
    all = ap (λ (l : List ℕ). seen ++ l) certain.parts ∙ sym (append_assoc seen certain.front (certain.last ∷ []));
    sound = λ h.
        (let k : fault_of plan (placed (seen ++ certain.front)) ≡ None =
        ap (fault_of plan) (sym (next_bytes seen certain.front at e)) ∙ certain.sound in
        let l = ap (λ (o : Fault). is_none o) k in let m = h in cc);
    broken = ap (λ (o : Fault). is_none o) (fault_after ∙ ap fault_by g);
  }

flows : (plan : Plan) (seen bytes : List ℕ) (at : ℕ) (given : List (Event Packet)) (stop : Option Stop) (e : at ≡ length seen) →
    Reads plan (placed seen) at bytes given (flow_to stop) → FaultAfter (IsFaulty plan) (seen ++ bytes) (is_some stop)
flows plan seen bytes at given None e reads = goes_on plan seen bytes at given Going e reads refl
flows plan seen bytes at given (Some stop) e reads = ends plan seen bytes at given (Stopped stop) e reads stop refl

kept : (stop : Option Stop) → option_map stop_of stop ≡ fault_by (flow_to stop)
kept None = refl
kept (Some stop) = refl

is_nothing : (fault : Fault) → true ≡ is_none fault → fault ≡ None
is_nothing None h = refl
is_nothing (Some fault) h = cc

-- an engine after a block, and what an action keeps of it
module _ (old new : Engine) (seen bytes : List ℕ) (at : ℕ) (given : List (Event Packet)) (stop : Option Stop)
    (stands : Stands old (placed seen)) (next : at ≡ next_of old)
    (same : plan_of new ≡ plan_of old) (list : Stands new (placed seen ++ placed_from at bytes))
    (reads : Reads (plan_of old) (placed seen) at bytes given (flow_to stop)) where
  here : at ≡ length seen
  here = next ∙ stands.next ∙ capture_end seen

  pub stands_after : Stands new (placed (seen ++ bytes))
  stands_after = subst (λ (u : List Placed). Stands new u) (next_bytes seen bytes at here) list

  pub report_here : report_of (plan_of old) (placed (seen ++ bytes)) ≡ report_of (plan_of old) (placed seen) ++ given
  report_here = report_grew (plan_of old) seen bytes at given (flow_to stop) here reads

  pub report_after : report_of (plan_of new) (placed (seen ++ bytes)) ≡ report_of (plan_of old) (placed seen) ++ given
  report_after =
      ap (λ (plan : Plan). report_of plan (placed (seen ++ bytes))) same ∙ report_here

  pub stop_after : option_map stop_of stop ≡ fault_of (plan_of new) (placed (seen ++ bytes))
  stop_after =
      kept stop ∙ sym (fault_after (plan_of old) seen bytes at given (flow_to stop) here reads)
      ∙ sym (ap (λ (plan : Plan). fault_of plan (placed (seen ++ bytes))) same)

  pub fault_here : FaultAfter (IsFaulty (plan_of old)) (seen ++ bytes) (is_some stop)
  fault_here = flows (plan_of old) seen bytes at given stop here reads

-- an engine after whole frames that it counted, and what is kept of it
module _ (old new : Engine) (seen bytes : List ℕ) (stands : Stands old (placed seen))
    (list : Stands new (placed seen ++ placed_from (next_of old) bytes)) where
  pub counted_stands : Stands new (placed (seen ++ bytes))
  counted_stands =
      subst (λ (u : List Placed). Stands new u) (next_bytes seen bytes (next_of old) (stands.next ∙ capture_end seen)) list

  pub counted_stop : is_live new ≡ true → (stop : Option Stop) → is_none stop ≡ true →
      option_map stop_of stop ≡ fault_of (plan_of new) (placed (seen ++ bytes))
  counted_stop live None h = sym (is_nothing (fault_of (plan_of new) (placed (seen ++ bytes))) (sym live ∙ counted_stands.live))
  counted_stop live (Some stop) h = cc

-- a reading without a fault
pub sound_here : (reading : CaptureReading) (seen : List ℕ) → IsLive reading → HasRead reading seen →
    FaultAfter (IsFaulty (plan_of reading.engine)) seen false
sound_here reading seen live stands h = (let k = sym live ∙ stands.engine.live in let m = h in cc)
