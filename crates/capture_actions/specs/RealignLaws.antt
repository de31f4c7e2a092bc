-- What the run asks of the meaning of `realign`.
use Rattle.std.specs.Prelude.{[]}
use Rattle.port_slip.proofs.Sureness.{sure_grows}
use Rattle.capture_actions.specs.Names.{IsLawful}
use Rattle.capture_actions.specs.Realigned.{realign_meaning}

pub realign_lawful : IsLawful realign_meaning
realign_lawful = record {
  never_at_first = λ f. f;
  nothing_at_first = λ i. [];
  faulty_stays = λ xs ys f. f;
  text_stays = λ xs ys f. absurd f;
  ending_stays = λ xs ys f. absurd f;
  text_grows = sure_grows;
}
