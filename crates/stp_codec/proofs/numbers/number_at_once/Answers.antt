use Rattle.std.proofs.Common.{◌≡◌, ◌+◌, ◌-◌, ◌*◌, ◌/◌, ◌^◌, ◌<◌, ◌≤◌, length, sym, ◌∙◌, ap, subst, arith}
use Rattle.std.proofs.Math.Nat.{div-div-eq-div-mul}
use Rattle.std.proofs.lemmas.Nat.{pow-add}
use Rattle.stp_codec.specs.Names.{Msn, number}
use Rattle.stp_grammar.proofs.Digits.{value_whole}
use Rattle.stp_codec.specs.Wholes.{nibbles_in, between}
use Rattle.stp_codec.proofs.Between.{length-nibbles, length-between}
use Rattle.stp_codec.proofs.AtOnce.{first_ones, between_fits, nibbles_fit}
use Rattle.stp_codec.proofs.Finishing.{value_is}
use Rattle.stp_codec.proofs.numbers.number_at_once.Goals as goal
use Rattle.stp_codec.proofs.numbers.number_at_once.Goals.{After-from}

-- the first of the nibbles that are turned
first : (c : After-from) → let half = 32 - 2 * c.from.result in
    c.turned-number.result / 2 ^ half / 2 ^ half ≡ number Msn (between (nibbles_in c.args.bytes.now) c.args.start (c.args.start + c.args.more))
first c =
    let a = c.args in
    let l = length-nibbles a.bytes.now in
    let few = c.requires.few in
    let same = c.from.ensures in
    let half = 32 - 2 * c.from.result in
    let room : a.start + 16 ≤ 2 * length a.bytes.now = omega (arith, c.requires.there) in
    div-div-eq-div-mul c.turned-number.result (2 ^ half) (2 ^ half)
    ∙ ap (λ n. c.turned-number.result / n) (sym (pow-add 2 half half) ∙ ap (λ n. 2 ^ n) (let e : half + half ≡ 64 - 4 * a.more = omega (arith, few, same) in e))
    ∙ ap (λ n. n / 2 ^ (64 - 4 * a.more)) (c.turned-number.ensures (between (nibbles_in a.bytes.now) a.start (a.start + 16))
    (length-between (nibbles_in a.bytes.now) 16 a.start (omega (arith, l, room))) (nibbles_fit a.bytes.now a.start (a.start + 16)) c.nibbles_from.ensures)
    ∙ first_ones a.bytes.now a.start a.more few room

pub returns-clause-value : goal.returns-clause-value
returns-clause-value c =
    let r = between (nibbles_in c.args.bytes.now) c.args.start (c.args.start + c.args.more) in
    first c ∙ sym (value_whole Msn r) ∙ value_is Msn 0 0 r

pub returns-clause-fits : goal.returns-clause-fits
returns-clause-fits c =
    let a = c.args in
    subst (λ n. n < 16 ^ a.more) (sym (first c)) (between_fits a.bytes.now a.start a.more (omega (arith, c.requires.few, c.requires.there)))
