use Rattle.std.proofs.Common.{Some, arith, set, rules}
use Rattle.value_dump.proofs.Told.{still_quiet}
use Rattle.value_dump.specs.Dump.{known}
use Rattle.value_dump.proofs.Changes.{all_few, all_more, other_value, set_value}
use Rattle.value_dump.proofs.values.SignalValues.set.Goals as goal

pub invariant_of-self : goal.invariant_of-self
invariant_of-self c =
    let s = c.args.self.now in
    let new = set s.latest c.args.number (Some c.args.value) in
    let most = all_few (known s.stamped) (known new) in
    let more =
    all_more c.args.number (known s.stamped) (known s.latest) (known new)
    (λ n d. other_value s.latest c.args.number c.args.value n d) in
    let least = c.min-self.ensures in
    record {
      few = omega (arith, least);
      quiet = still_quiet s.told c.args.number c.args.value (omega (arith, c.requires)) s.latest s.stamped s.quiet;
      covered = omega (arith, least, most, more, s.covered);
    }

pub returns-clause-latest : goal.returns-clause-latest
returns-clause-latest c = set_value c.args.self.now.latest c.args.number c.args.value (search rules)
