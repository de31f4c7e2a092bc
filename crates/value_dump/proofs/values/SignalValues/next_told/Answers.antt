use Rattle.std.proofs.Common.{◌<◌, ◌^◌, arith, rules}
use Rattle.value_dump.proofs.Told.{none_after, none_between}
use Rattle.value_dump.proofs.values.SignalValues.next_told.Goals as goal

pub returns-then-rest-eq0-clause-quiet : goal.returns-then-rest-eq0-clause-quiet
returns-then-rest-eq0-clause-quiet c = λ number a b.
    let s = c.args.self.now in
    s.quiet number (none_after s.told c.args.first number c.if-rest-eq0.true a)

pub returns-clause-quiet : goal.returns-clause-quiet
returns-clause-quiet c = λ number a b.
    let s = c.args.self.now in
    let some = c.if-rest-eq0.false in
    let least = c.min.ensures in
    let fits : s.told < 2 ^ 64 = search rules in
    s.quiet number (none_between s.told c.args.first number fits (omega (arith, some)) a (omega (arith, b, least)))
