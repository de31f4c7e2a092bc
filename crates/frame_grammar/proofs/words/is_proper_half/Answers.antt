use Rattle.std.proofs.Common.{bit_and, rules, ◌+◌}
use Rattle.std.proofs.lemmas.Bool.{eq-eqb, eqb-true}
use Rattle.frame_grammar.proofs.Masks.{proper_if, only_proper}
use Rattle.frame_grammar.proofs.words.is_proper_half.Goals as goal

pub returns : goal.returns
returns c =
    let xs = c.args.half.now in
    let n = c.from_le_bytes-evens.result in
    let r = bit_and (bit_and n 0xFF00FF00FF00FF + 0x1000100010001) 0x100010001000100 in (
      (λ t. proper_if xs n (λ i. search rules) c.from_le_bytes-evens.ensures (eqb-true r 0 t)),
      (λ p. eq-eqb r 0 (only_proper xs n (λ i. search rules) c.from_le_bytes-evens.ensures p)),
    )
