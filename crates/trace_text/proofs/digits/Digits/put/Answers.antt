use Rattle.std.proofs.Common.{◌≡◌, ◌++◌, ◌-◌, ◌/◌, ◌%◌, sym, ◌∙◌, ap, arith}
use Rattle.std.specs.Prelude.{decimal}
use Rattle.itoa.proofs.Decimal.{decimal_pair}
use Rattle.trace_text.specs.Pairs.{pair}
use Rattle.trace_text.proofs.Putting.{both, within, loose}
use Rattle.trace_text.proofs.digits.Digits.put.Goals as goal

pub returns : goal.returns
returns c =
    let self = c.args.self.now in
    let n = c.args.number in
    let big = c.if-number-lt100.false in
    let fits = c.ranges.number.fits in
    let few = self.few in
    let whole = self.whole in
    let hundreds = c.requires.kept in
    let last : n - self.base ≡ n % 100 = omega (arith, whole, hundreds) in
    within (loose (both c.put_front-from.ensures c.put_two.ensures)) (omega arith)
    (ap (λ l. l ++ pair (n - self.base)) (self.kept ∙ ap decimal hundreds)
    ∙ ap (λ k. decimal (n / 100) ++ pair k) last
    ∙ sym (decimal_pair n (omega (arith, big)) (omega (arith, fits))))
