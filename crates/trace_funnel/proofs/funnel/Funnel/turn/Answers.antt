use Rattle.std.proofs.Common.{length, ◌++◌, ◌∙◌, ap, arith, List}
use Rattle.trace_funnel.specs.Turns.{load}
use Rattle.trace_funnel.specs.State.{State, turn_by}
use Rattle.trace_funnel.specs.declared.tagged.Tagged.{Tagged}
use Rattle.trace_funnel.proofs.Loading.{turn_load}
use Rattle.trace_funnel.proofs.funnel.Funnel.turn.Goals as goal

pub returns-clause-count : goal.returns-clause-count
returns-clause-count c =
    let f = c.args.self.now in
    let gave = ap length (c.give.ensures.given ∙ ap (λ (l : List Tagged). l ++ (turn_by f).out) c.requires) in
    let left = ap (λ (s : State). load s.places) c.give.ensures.places in
    let all = turn_load f.hold f.places in
    omega (arith, gave, left, all)
