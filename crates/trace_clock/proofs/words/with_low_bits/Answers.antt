use Rattle.std.proofs.Common.{◌*◌, ◌/◌, ◌^◌, ◌<◌, ap, ◌∙◌, arith, bit_or}
use Rattle.std.proofs.Math.Nat.{div-mul-le_self, mod-eq_of_lt}
use Rattle.std.proofs.lemmas.Nat.{or_shifted}
use Rattle.trace_clock.proofs.words.with_low_bits.Goals as goal

pub returns : goal.returns
returns c =
    let above = c.args.number / 2 ^ c.args.count * 2 ^ c.args.count in
    let kept : above < 2 ^ 64 = omega (arith, div-mul-le_self c.args.number (2 ^ c.args.count)) in
    record { value = ap (λ n. bit_or n c.args.bits) (mod-eq_of_lt kept) ∙ or_shifted (c.args.number / 2 ^ c.args.count) c.args.count c.args.bits c.requires.bits }
