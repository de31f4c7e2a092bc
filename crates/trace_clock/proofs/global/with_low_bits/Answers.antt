use Rattle.std.proofs.Common.{◌*◌, ◌/◌, ◌%◌, ◌^◌, ◌<◌, ◌≤◌, ap, ◌∙◌, arith, bit_or}
use Rattle.std.proofs.Math.Nat.{div-mul-le_self, mod-eq_of_lt, pow-le-pow_right}
use Rattle.std.proofs.lemmas.Nat.{or_shifted, or_lt}
use Rattle.trace_clock.proofs.global.with_low_bits.Goals as goal

pub returns-clause-value : goal.returns-clause-value
returns-clause-value c =
    let above = c.args.number / 2 ^ c.args.count * 2 ^ c.args.count in
    let kept : above < 2 ^ 32 = omega (arith, div-mul-le_self c.args.number (2 ^ c.args.count)) in
    ap (λ n. bit_or n c.args.bits) (mod-eq_of_lt kept) ∙ or_shifted (c.args.number / 2 ^ c.args.count) c.args.count c.args.bits c.requires.bits

pub returns-clause-fits : goal.returns-clause-fits
returns-clause-fits c =
    let above = c.args.number / 2 ^ c.args.count * 2 ^ c.args.count in
    let below : above % 2 ^ 32 < 2 ^ 26 = omega (arith, div-mul-le_self c.args.number (2 ^ c.args.count)) in
    let few : 2 ^ c.args.count ≤ 2 ^ 21 = pow-le-pow_right (omega arith) c.requires.count in
    or_lt 26 (above % 2 ^ 32) c.args.bits below (omega (arith, few))
