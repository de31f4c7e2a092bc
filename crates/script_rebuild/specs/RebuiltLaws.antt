-- How what is written grows with the bytes of a script.
use Rattle.std.proofs.Common.{◌≡◌, ℕ, List, [], ◌++◌, refl, Option, None, Some, is_some, true, ap, sym, ◌∙◌, append-nil}
use Rattle.script_rebuild.specs.Names.{IsLawful, sure, LineFault, Plan, Turns}
use Rattle.frame_writer.proofs.Sureness.{nothing_sure}
use Rattle.script_rebuild.specs.Script.{in_order}
use Rattle.script_rebuild.specs.Routed.{routed_by}
use Rattle.script_rebuild.specs.RoutedLaws.{settled_by, end_settled, lines_extend}
use Rattle.script_rebuild.specs.Segments.{sure_lines}
use Rattle.script_rebuild.specs.Versions.{Reading}
use Rattle.script_rebuild.specs.ScriptLaws.{sure_more}
use Rattle.script_rebuild.specs.declared.plan.RebuildPlan.{RebuildPlan}
use Rattle.script_rebuild.specs.Rebuilt.{read_so_far, port_of, routed_so_far, routed_script, text, left_of}
use Rattle.script_rebuild.specs.Rebuilt.{script_capture, rebuild_meaning}
use Rattle.script_rebuild.specs.GrowthLaws.{so_far_extends}

pub nothing_left : (whole front : List ℕ) (fault : Option (ℕ × LineFault)) → is_some fault ≡ true →
    left_of whole front fault ≡ []
nothing_left whole front None h = cc
nothing_left whole front (Some fault) h = refl

-- no bytes have no fault
never_faulty : (funnel : Option Turns) (plan : Plan) → is_some (routed_by funnel (read_so_far plan [])).fault ≡ true → ⊥
never_faulty None plan h = cc
never_faulty (Some turns) plan h = cc

-- and nothing of them is sure
none_written : (every halves : ℕ) (plan : Plan) (funnel : Option Turns) →
    (let p : RebuildPlan = record { plan = plan; every = every; halves = halves; funnel = funnel } in text p []) ≡ []
none_written every halves plan None =
    sym (nothing_sure every halves [] refl ∙ append-nil (sure every halves []))
none_written every halves plan (Some turns) =
    sym (nothing_sure every halves [] refl ∙ append-nil (sure every halves []))

pub rebuild_lawful : (p : RebuildPlan) → IsLawful (rebuild_meaning p)
rebuild_lawful p = record {
  never_at_first = λ h. never_faulty p.funnel p.plan h;
  nothing_at_first = none_written p.every p.halves p.plan p.funnel;
  faulty_stays = λ xs ys h. ap (λ (r : Reading). is_some r.fault) (settled_by p.funnel p.plan xs ys h).so_far ∙ h;
  text_stays = λ xs ys h.
      ap (λ (r : Reading). sure_lines (port_of p) p.plan.order (in_order p.plan.stp) r.lines)
      (settled_by p.funnel p.plan xs ys h).so_far;
  ending_stays = λ xs ys h.
      nothing_left (script_capture p (xs ++ ys)) (text p (xs ++ ys)) (routed_script p (xs ++ ys)).fault
      (ap (λ (r : Reading). is_some r.fault) (settled_by p.funnel p.plan xs ys h).whole ∙ h)
      ∙ sym (nothing_left (script_capture p xs) (text p xs) (routed_script p xs).fault
      (ap (λ (r : Reading). is_some r.fault) (end_settled p.funnel p.plan xs h) ∙ h));
  text_grows = λ xs ys.
      let order = p.plan.order in
      let ids = in_order p.plan.stp in
      let longer = lines_extend p.funnel (read_so_far p.plan xs) (read_so_far p.plan (xs ++ ys))
      (so_far_extends p.plan xs ys) in
      let grown = sure_more (port_of p) order ids (routed_so_far p xs).lines longer.more in
      (grown.0, ap (sure_lines (port_of p) order ids) longer.all ∙ grown.1);
}
