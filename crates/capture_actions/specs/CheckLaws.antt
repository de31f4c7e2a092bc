-- How the summary stays after a fault.
use Rattle.std.specs.Prelude.{[], refl}
use Rattle.capture_actions.specs.Names.{IsLawful, Plan}
use Rattle.capture_actions.specs.FaultyLaws as laws
use Rattle.capture_actions.specs.Summary.{check_meaning, summary_by}

pub check_lawful : (plan : Plan) → IsLawful (check_meaning plan)
check_lawful plan = record {
  never_at_first = laws.none_at_first plan;
  nothing_at_first = refl;
  faulty_stays = laws.faulty_stays plan;
  text_stays = λ xs ys h. refl;
  ending_stays = laws.ending_stays plan (summary_by plan) (λ u w fault. refl);
  text_grows = λ xs ys. ([], refl);
}
