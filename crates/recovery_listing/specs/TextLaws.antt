-- How the account of `text` goes on: proofs that its `impl` cites.
use Rattle.std.proofs.Common.{◌≡◌, ◌<◌, ℕ, List, ◌++◌, length, sym, ◌∙◌, ap, Bool, Option}
use Rattle.std.specs.Prelude.{◌||◌}
use Rattle.source_events.specs.declared.event.Event.{Event}
use Rattle.source_events.specs.declared.packet.Packet.{Packet}
use Rattle.source_events.specs.declared.plan.Plan.{Plan}
use Rattle.stretch_readings.specs.declared.heard.Heard.{Heard}
use Rattle.recovery_report.specs.Report.{sure_events}
use Rattle.capture_actions.specs.PortText.{source_of, values_in}
use Rattle.capture_actions.specs.PortValues as strict
use Rattle.capture_actions.specs.declared.port_text_plan.PortTextPlan.{PortTextPlan}
use Rattle.capture_actions.specs.declared.port_values.PortValues.{PortValues}
use Rattle.recovery_listing.specs.Account.{GoesOn, Pages, events_of}
use Rattle.recovery_listing.specs.FaultLines.{fault_lines}
use Rattle.recovery_listing.specs.Listing.{has_fault}
use Rattle.recovering_machines.specs.Hearing.{seen_in}
use Rattle.recovering_machines.specs.HearingLaws.{took_read}
use Rattle.recovery_listing.specs.Noting.{with_losses}
use Rattle.recovery_listing.specs.PortText.{noted_text, port_text_meaning}
use Rattle.recovery_listing.specs.PortTextLaws.{values_more, without_losses}
use Rattle.recovery_listing.specs.SureLaws.{faulty_more, noted_more}
use Rattle.recovery_listing.specs.Text.{HasPut, asked, gets}
use Rattle.recovery_listing.specs.declared.going_on.GoingOn.{GoingOn}
use Rattle.recovery_listing.specs.declared.noting.Noting.{Noting}

-- what is asked of the values
abbrev by_values : GoingOn Plan → PortValues → GoingOn PortTextPlan
by_values how values = record { plan = record { plan = how.plan; port = values.port }; guesses = how.guesses }

put : (old new : Noting PortValues × Pages) (given : List (Event (Heard Packet))) → gets old given new →
    strict.gets (old.0.receiver, old.1.text) (with_losses old.0.source given) (new.0.receiver, new.1.text)
put old new given g =
    took_read strict.gets (old.0.receiver, old.1.text) (new.0.receiver, new.1.text) (with_losses old.0.source given)
    g.receiver

pub same : (old new : Noting PortValues × Pages) (given : List (Event (Heard Packet))) (how : GoingOn Plan) →
    gets old given new → asked new.0 how ≡ asked old.0 how
same old new given how g = ap (by_values how) (put old new given g).0

pub goes_on : (old new : Noting PortValues × Pages) (given : List (Event (Heard Packet))) (how : GoingOn Plan)
    (seen front : List ℕ) → gets old given new → 0 < length front →
    events_of how (seen ++ front) ≡ events_of how seen ++ given → HasPut old.0 how seen →
    GoesOn (HasPut new.0 how) (port_text_meaning (asked old.0 how)) (noted_text (asked old.0 how)) seen front old.1
    new.1
goes_on old new given how seen front g some more h =
    let source = source_of how.plan in
    let port = old.0.receiver.port in
    record {
      read = record {
        source = ap (λ (v : PortValues). v.source) (put old new given g).0 ∙ h.source;
        faulty = g.faulty ∙ ap (λ (f : Bool). f || has_fault (sure_events given)) h.faulty
            ∙ sym (faulty_more how seen front given more);
      };
      more = values_in source port (seen_in given);
      grown = ap (λ (es : List (Event (Heard Packet))). values_in source port (seen_in es)) more
          ∙ values_more source port (events_of how seen) given;
      gained = (put old new given g).1
          ∙ ap (λ (l : List ℕ). old.1.text ++ l) (without_losses old.0.receiver.source port old.0.source given)
          ∙ ap (λ (s : Option ℕ). old.1.text ++ values_in s port (seen_in given)) h.source;
      told = fault_lines (sure_events given);
      noted = noted_more how seen front given more;
      noting = g.notes;
    }
