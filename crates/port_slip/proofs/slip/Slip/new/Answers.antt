use Rattle.std.proofs.Common.{refl, arith}
use Rattle.port_slip.specs.Bits.{ones}
use Rattle.port_slip.proofs.Steps.{made_same}
use Rattle.port_slip.proofs.slip.Slip.new.Goals as goal

pub returns-clause-fresh : goal.returns-clause-fresh
unfolding ones
returns-clause-fresh c = record {
  count = refl;
  completes = λ more. made_same refl (omega arith) (omega arith) (omega arith);
}
