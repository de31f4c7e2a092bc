use Rattle.std.proofs.Common.{ℕ, ◌+◌, ◌*◌, List, [], ◌∷◌, ◌++◌, sym, ◌∙◌, ap}
use Rattle.stp_encoder.proofs.Joining.{push_even, push_odd}
use Rattle.stp_encoder.proofs.joiner.Joiner.put.Goals as goal

pub returns-in-None-clause-joins : goal.returns-in-None-clause-joins
returns-in-None-clause-joins c = λ n j.
    let k = push_even n c.args.nibble (sym c.in-None.is ∙ j.1) in (j.0 ∙ k.0, k.1)

pub returns-in-Some-clause-joins : goal.returns-in-Some-clause-joins
returns-in-Some-clause-joins c = λ n j.
    let k = push_odd n c.in-Some.low c.args.nibble (sym c.in-Some.is ∙ j.1) in
    (c.push.ensures.items ∙ ap (λ (l : List ℕ). l ++ (c.in-Some.low + 16 * c.args.nibble) ∷ []) j.0 ∙ k.0, k.1)
