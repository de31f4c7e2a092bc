use Rattle.std.proofs.Common.{[], refl}
use Rattle.recovering_machines.proofs.Passed.{none_passed}
use Rattle.recovering_machines.proofs.Wholes.{none_whole}
use Rattle.recovering_machines.proofs.source.RecoveringSource.new.Goals as goal

pub returns-clause-fresh : goal.returns-clause-fresh
returns-clause-fresh c = record {
  front = [];
  keeps =
      record {
        stands = c.new.ensures.units;
        reading = c.new.ensures.mode;
        passed = none_passed _;
        past_is = refl;
        count_is = refl;
      };
  hunts = c.hunts.ensures;
  whole = none_whole _;
}
