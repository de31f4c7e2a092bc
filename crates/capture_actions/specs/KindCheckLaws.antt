-- How the summary with kinds stays after a fault.
use Rattle.std.specs.Prelude.{ℕ, [], refl, List, ◌++◌}
use Rattle.std.proofs.Common.{ap, ◌∙◌}
use Rattle.capture_actions.specs.Names.{IsLawful, Plan, Event, Packet, placed, report_of, fault_of}
use Rattle.capture_actions.specs.Faulty.{read_of}
use Rattle.capture_actions.specs.FaultyLaws as laws
use Rattle.capture_actions.specs.Kinds.{kinds_meaning, kinds_by}

pub kinds_lawful : (plan : Plan) → IsLawful (kinds_meaning plan)
kinds_lawful plan = record {
  never_at_first = laws.none_at_first plan;
  nothing_at_first = refl;
  faulty_stays = laws.faulty_stays plan;
  text_stays = λ xs ys h. refl;
  ending_stays = λ xs ys h.
      let u = placed (xs ++ ys) in
      ap (λ (l : List ℕ). kinds_by plan (placed l) (report_of plan u) (fault_of plan u)) (laws.read_stays plan xs ys h)
      ∙ ap (λ (l : List (Event Packet)). kinds_by plan (placed (read_of plan xs)) l (fault_of plan u))
      (laws.same_report plan xs ys h)
      ∙ ap (kinds_by plan (placed (read_of plan xs)) (report_of plan (placed xs))) (laws.same_fault plan xs ys h);
  text_grows = λ xs ys. ([], refl);
}
