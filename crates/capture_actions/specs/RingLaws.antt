-- What a run asks of the meanings of `ring` and `unring`.
use Rattle.std.specs.Prelude.{ℕ, List, [], refl}
use Rattle.capture_actions.specs.Names.{IsLawful}
use Rattle.capture_actions.specs.Ring.{at_end}

pub at_end_lawful : (ending : List ℕ → List ℕ) → IsLawful (at_end ending)
at_end_lawful ending = record {
  never_at_first = λ f. f;
  nothing_at_first = refl;
  faulty_stays = λ xs ys f. f;
  text_stays = λ xs ys f. refl;
  ending_stays = λ xs ys f. absurd f;
  text_grows = λ xs ys. ([], refl);
}
