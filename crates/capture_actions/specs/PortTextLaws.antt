-- How the text of a stimulus port grows with the bytes of the capture.
use Rattle.std.proofs.Common.{◌≡◌, ℕ, List, [], ◌++◌, flat_map, refl, ◌∙◌, ap, Option, cond}
use Rattle.std.proofs.lemmas.Grind.{flat_map-append}
use Rattle.capture_actions.specs.Names.{IsLawful, Event, Packet, is_of, placed, sources_by, report_of}
use Rattle.source_events.proofs.Captures as captures
use Rattle.source_events.proofs.Lawful.{plan_lawful}
use Rattle.capture_actions.specs.declared.port_text_plan.PortTextPlan.{PortTextPlan}
use Rattle.capture_actions.specs.FaultyLaws as laws
use Rattle.capture_actions.specs.Listing.{itm_packet, itm_packets}
use Rattle.capture_actions.specs.PortText.{source_of, value_of, values_in, port_text_meaning}

-- the values among two lists of events are those among the first and those among the second
pub values_append : (source : Option ℕ) (port : ℕ) (xs ys : List (Event Packet)) →
    values_in source port (xs ++ ys) ≡ values_in source port xs ++ values_in source port ys
values_append source port xs ys =
    ap (flat_map (value_of port))
    (flat_map-append (λ (e : Event Packet). cond (is_of source e.source) (itm_packet e.what) []) xs ys)
    ∙ flat_map-append (value_of port) (itm_packets source xs) (itm_packets source ys)

pub port_text_lawful : (p : PortTextPlan) → IsLawful (port_text_meaning p)
port_text_lawful p = record {
  never_at_first = laws.none_at_first p.plan;
  nothing_at_first =
      ap (values_in (source_of p.plan) p.port)
      (captures.no_event_first (sources_by p.plan) (plan_lawful p.plan) p.plan.frames);
  faulty_stays = laws.faulty_stays p.plan;
  text_stays = λ xs ys h. ap (values_in (source_of p.plan) p.port) (laws.same_report p.plan xs ys h);
  ending_stays = λ xs ys h. refl;
  text_grows = λ xs ys.
      let more = captures.grows (sources_by p.plan) (plan_lawful p.plan) p.plan.frames xs ys in (
        values_in (source_of p.plan) p.port more.0,
        ap (values_in (source_of p.plan) p.port) more.1
            ∙ values_append (source_of p.plan) p.port (report_of p.plan (placed xs)) more.0,
      );
}
