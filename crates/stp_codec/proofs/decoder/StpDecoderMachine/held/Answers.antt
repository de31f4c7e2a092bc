use Rattle.std.proofs.Common.{◌≡◌, ℕ, ◌≤◌, ◌⊎◌, ◌<◌, All, take, sym, ◌∙◌, ap, subst, arith}
use Rattle.stp_codec.specs.Names.{units_of, nibbles_of, count_of}
use Rattle.stp_codec.specs.Reading.{rest_in}
use Rattle.stp_codec.specs.Decoder.{is_hunter, partial_of}
use Rattle.stp_codec.proofs.Holding as holding
use Rattle.stp_codec.proofs.Taken.{held_begun, held_count, read_few}
use Rattle.stp_codec.proofs.decoder.StpDecoderMachine.held.Goals as goal

pub returns-then-self-eq0-clause-few : goal.returns-then-self-eq0-clause-few
returns-then-self-eq0-clause-few c = λ u s.
    let d = c.args.self.now in
    subst (λ (n : ℕ). (n ≤ 34) ⊎ All (λ b. b ≡ 15) (take n (units_of (rest_in d.order (is_hunter d) (nibbles_of u))))) (sym (c.len.ensures ∙ ap (λ p. count_of p) c.unfinished.ensures.value ∙ sym (held_begun d c.if-self-eq0.true)))
    (holding.few d.order d.mode d.live (partial_of d) (nibbles_of u) s.0)

pub overflow_add-result : goal.overflow_add-result
overflow_add-result c =
    let d = c.args.self.now in
    let n = c.if-self-eq0.false in
    let w : 0 < d.waiting = grind arith in
    let k = read_few d w in
    let f = d.few in
    let e = c.len-2.ensures ∙ ap (λ p. count_of p) c.unfinished-2.ensures.value in
    omega (arith, k, f, e)

pub returns-clause-count : goal.returns-clause-count
returns-clause-count c = (let k = held_count c.args.self.now in let e = c.len-2.ensures ∙ ap (λ p. count_of p) c.unfinished-2.ensures.value in omega (arith, k, e))

pub returns-clause-few : goal.returns-clause-few
returns-clause-few c = λ u s.
    let d = c.args.self.now in
    let e = c.len-2.ensures ∙ ap (λ p. count_of p) c.unfinished-2.ensures.value in
    let k = held_count d in
    subst (λ (n : ℕ). (n ≤ 34) ⊎ All (λ b. b ≡ 15) (take n (units_of (rest_in d.order (is_hunter d) (nibbles_of u))))) (omega (arith, k, e))
    (holding.few d.order d.mode d.live (partial_of d) (nibbles_of u) s.0)
