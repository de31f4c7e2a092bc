-- How the values of a recovering report grow with its events and with the bytes.
use Rattle.std.proofs.Common.{◌≡◌, ℕ, List, [], ◌∷◌, ◌++◌, Option, None, Some, ◌∙◌, ap, refl, sym}
use Rattle.std.proofs.Common.{cond, Bool, true, false}
use Rattle.std.specs.Prelude.{Result, Ok, Err, flat_map}
use Rattle.trace_values.specs.declared.fault.Reason.{Reason}
use Rattle.trace_values.specs.Placed.{placed}
use Rattle.itm_grammar.specs.declared.packet.ItmPacket.TheVariants.{Overflow}
use Rattle.source_events.specs.declared.event.Event.{Event}
use Rattle.source_events.specs.declared.event.What.{What}
use Rattle.source_events.specs.declared.packet.Packet.{Packet}
use Rattle.source_events.specs.declared.plan.Plan.{Plan}
use Rattle.source_events.specs.Merge.{is_of, place_of}
use Rattle.stretch_readings.specs.declared.heard.Heard.{Heard}
use Rattle.recovering_machines.specs.Hearing.{as_strict}
use Rattle.recovering_machines.specs.HearingLaws.{seen_append}
use Rattle.recovery_report.specs.Report.{report_with}
use Rattle.recovery_engine.proofs.Growing.{nothing_first, report_grows}
use Rattle.trace_stream.specs.Served.{IsLawful}
use Rattle.capture_actions.specs.PortText.{source_of, value_of, values_in}
use Rattle.capture_actions.specs.PortTextLaws.{values_append}
use Rattle.capture_actions.specs.declared.port_text_plan.PortTextPlan.{PortTextPlan}
use Rattle.recovery_listing.specs.FaultLines.{fault_lines, noted_faults}
use Rattle.recovering_machines.specs.Hearing.{seen_by, seen_in}
use Rattle.recovery_listing.specs.Noting.{given_by, given_of, is_misread, loser_of, loss_at, with_losses}
use Rattle.recovery_listing.specs.NotingLaws.{not_misread}
use Rattle.recovery_listing.specs.PortText.{port_text_meaning}
use Rattle.recovery_listing.specs.declared.going_on.GoingOn.{GoingOn}

pub values_more : (source : Option ℕ) (port : ℕ) (xs ys : List (Event (Heard Packet))) →
    values_in source port (seen_in (xs ++ ys))
    ≡ values_in source port (seen_in xs) ++ values_in source port (seen_in ys)
values_more source port xs ys =
    ap (values_in source port) (seen_append xs ys) ∙ values_append source port (seen_in xs) (seen_in ys)

-- what is lost at a fault has no value
module _ (source : Option ℕ) (port : ℕ) where
  no_value : (e : Event (Heard Packet)) (o : Option ℕ) → values_in source port (loss_at (place_of e) o) ≡ []
  no_value e None = refl
  no_value e (Some x) = by (is_of source (Some x)) where
    by : (b : Bool) → flat_map (value_of port) (cond b (Overflow ∷ []) [] ++ []) ≡ []
    by true = refl
    by false = refl

  one : (own : Option ℕ) (e : Event (Heard Packet)) (m : Bool) (r : Result (What Packet) Reason) →
      is_misread e.what ≡ m → as_strict e.what ≡ r →
      values_in source port (given_of own e m) ≡ values_in source port (seen_by e r)
  one own e true (Ok what) m r = let n = not_misread e.what what r in cc
  one own e true (Err reason) m r = refl
  one own e false (Ok what) m r =
      ap (λ (x : Result (What Packet) Reason). values_in source port (given_by own e x)) r
  one own e false (Err reason) m r =
      ap (λ (x : Result (What Packet) Reason). values_in source port (given_by own e x)) r
      ∙ no_value e (loser_of own e.source)

  pub without_losses : (own : Option ℕ) (es : List (Event (Heard Packet))) →
      values_in source port (with_losses own es) ≡ values_in source port (seen_in es)
  without_losses own [] = refl
  without_losses own (e ∷ es) =
      let seen = seen_by e (as_strict e.what) in
      values_append source port (given_of own e (is_misread e.what)) (with_losses own es)
      ∙ ap (λ (l : List ℕ). l ++ values_in source port (with_losses own es))
      (one own e (is_misread e.what) (as_strict e.what) refl refl)
      ∙ ap (λ (l : List ℕ). values_in source port seen ++ l) (without_losses own es)
      ∙ sym (values_append source port seen (seen_in es))

-- of no bytes nothing is noted
pub noted_none : (plan : Plan) → noted_faults plan [] ≡ []
noted_none plan = ap fault_lines (nothing_first false plan)

pub port_text_lawful : (p : GoingOn PortTextPlan) → IsLawful (port_text_meaning p)
port_text_lawful p =
    let source = source_of p.plan.plan in
    let values : List (Event (Heard Packet)) → List ℕ = λ es. values_in source p.plan.port (seen_in es) in
    record {
      never_at_first = λ h. h;
      nothing_at_first = ap values (nothing_first p.guesses p.plan.plan);
      faulty_stays = λ xs ys h. h;
      text_stays = λ xs ys h. absurd h;
      ending_stays = λ xs ys h. refl;
      text_grows = λ xs ys.
          let more = report_grows p.guesses p.plan.plan xs ys in (
            values more.0,
            ap values more.1
                ∙ values_more source p.plan.port (report_with p.guesses p.plan.plan (placed xs)) more.0,
          );
    }
