use Rattle.std.proofs.Common.{arith, refl, length, ap}
use Rattle.value_dump.specs.Dump.{known}
use Rattle.value_dump.proofs.Changes.{all_same}
use Rattle.value_dump.proofs.values.SignalValues.settle.Goals as goal

pub invariant_of-self : goal.invariant_of-self
invariant_of-self c = record {
  few = omega arith;
  quiet = λ number h. refl;
  covered = (let h = ap (λ l. length l) (all_same (known c.args.self.now.latest)) in omega (arith, h));
}
