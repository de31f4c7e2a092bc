use Rattle.std.proofs.Common.{refl}
use Rattle.stp_grammar.proofs.Attributing.{stands_none}
use Rattle.stp_grammar.proofs.attribution.Attribution.new.Goals as goal

pub returns : goal.returns
returns c = stands_none _ refl refl refl refl
