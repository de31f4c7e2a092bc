-- How what `exercise` writes stays after a fault.
use Rattle.std.proofs.Common.{ℕ, List, [], ◌++◌, refl, ap}
use Rattle.capture_exercise.specs.Names.{IsLawful}
use Rattle.trace_text.specs.CountText.{exercise_lines}
use Rattle.capture_actions.specs.CheckLaws.{check_lawful}
use Rattle.capture_exercise.specs.declared.plans.ExercisePlan.{ExercisePlan}
use Rattle.capture_exercise.specs.Summary.{exercise_meaning}

pub exercise_lawful : (p : ExercisePlan) → IsLawful (exercise_meaning p)
exercise_lawful p =
    let check = check_lawful p.plan in
    record {
      never_at_first = check.never_at_first;
      nothing_at_first = refl;
      faulty_stays = check.faulty_stays;
      text_stays = λ xs ys h. refl;
      ending_stays = λ xs ys h.
          ap (λ (l : List ℕ). exercise_lines p.items p.capture ++ l) (check.ending_stays xs ys h);
      text_grows = λ xs ys. ([], refl);
    }
