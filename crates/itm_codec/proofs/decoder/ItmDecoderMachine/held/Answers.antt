use Rattle.std.proofs.Common.{◌≡◌, ℕ, ◌≤◌, ◌⊎◌, List, All, take, sym, ◌∙◌, ap, subst, arith}
use Rattle.itm_codec.specs.Names.{Placed, units_of, count_of}
use Rattle.itm_codec.specs.declared.decoder.ItmDecoder.{ItmDecoder}
use Rattle.itm_codec.specs.Reading.{rest_in}
use Rattle.itm_codec.specs.Decoder.{Stands, partial_of, is_hunter, held_of}
use Rattle.itm_codec.proofs.Holding as holding
use Rattle.itm_codec.proofs.Waiting.{settled, waiting_is}
use Rattle.itm_codec.proofs.decoder.ItmDecoderMachine.held.Goals as goal

few_at : (d : ItmDecoder) (n : ℕ) (u : List Placed) → n ≡ held_of d → Stands d u → (n ≤ 6) ⊎ All (λ b. b ≡ 0) (take n (units_of (rest_in (is_hunter d) u)))
few_at d n u e s =
    subst (λ (n : ℕ). (n ≤ 6) ⊎ All (λ b. b ≡ 0) (take n (units_of (rest_in (is_hunter d) u)))) (sym e) (holding.few d.mode d.live (partial_of d) u s)

pub returns-then-self-gt0-clause-count : goal.returns-then-self-gt0-clause-count
returns-then-self-gt0-clause-count c = waiting_is c.args.self.now c.if-self-gt0.true

pub returns-then-self-gt0-clause-few : goal.returns-then-self-gt0-clause-few
returns-then-self-gt0-clause-few c = λ u s. few_at c.args.self.now c.args.self.now.waiting u (waiting_is c.args.self.now c.if-self-gt0.true) s

pub returns-else-self-gt0-clause-few : goal.returns-else-self-gt0-clause-few
returns-else-self-gt0-clause-few c = λ u s.
    let none : c.args.self.now.waiting ≡ 0 = (let k = c.if-self-gt0.false in omega arith) in
    few_at c.args.self.now c.len.result u (c.len.ensures ∙ ap count_of (sym (settled c.args.self.now none))) s
