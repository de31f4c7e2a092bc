-- How the listing grows with the bytes.
use Rattle.std.specs.Prelude.{[], refl}
use Rattle.std.proofs.Common.{ap, ◌∙◌}
use Rattle.capture_actions.specs.Names.{IsLawful, placed, sources_by, report_of}
use Rattle.source_events.proofs.Captures as captures
use Rattle.source_events.proofs.Lawful.{plan_lawful}
use Rattle.capture_actions.specs.declared.list_plan.ListPlan.{ListPlan}
use Rattle.capture_actions.specs.FaultyLaws as laws
use Rattle.capture_actions.specs.Listing.{lines_after, ending_by, show_meaning}
use Rattle.capture_actions.specs.LineLaws.{lines_append}

pub show_lawful : (p : ListPlan) → IsLawful (show_meaning p)
show_lawful p = record {
  never_at_first = laws.none_at_first p.plan;
  nothing_at_first =
      ap (lines_after p []) (captures.no_event_first (sources_by p.plan) (plan_lawful p.plan) p.plan.frames);
  faulty_stays = laws.faulty_stays p.plan;
  text_stays = λ xs ys h. ap (lines_after p []) (laws.same_report p.plan xs ys h);
  ending_stays = laws.ending_stays p.plan (ending_by p.plan) (λ u w fault. refl);
  text_grows = λ xs ys.
      let more = captures.grows (sources_by p.plan) (plan_lawful p.plan) p.plan.frames xs ys in (
        lines_after p (report_of p.plan (placed xs)) more.0,
        ap (lines_after p []) more.1 ∙ lines_append p [] (report_of p.plan (placed xs)) more.0,
      );
}
