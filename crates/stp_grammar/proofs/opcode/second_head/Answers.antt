use Rattle.std.proofs.Common.{◌≡◌, [], ◌∷◌, sym, ◌∙◌, ap, arith}
use Rattle.stp_grammar.specs.Opcodes.{opening_of, head_of, listed}
use Rattle.stp_grammar.proofs.Openings.{run_refused}
use Rattle.stp_grammar.proofs.opcode.second_head.Goals as goal

pub returns-in-Some-next : goal.returns-in-Some-next
returns-in-Some-next c =
    let low = c.requires.nibble in
    let high = c.if-nibble-lt15.false in
    let f : c.args.nibble ≡ 15 = grind arith in
    sym (ap (λ o. head_of (opening_of (15 ∷ (c.args.nibble ∷ listed o)))) c.in-Some-next.is
    ∙ ap (λ n. head_of (opening_of (15 ∷ (n ∷ (c.in-Some-next.c ∷ []))))) f ∙ run_refused c.in-Some-next.c c.if-c-ne15.true)
