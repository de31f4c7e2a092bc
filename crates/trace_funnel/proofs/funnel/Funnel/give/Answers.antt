use Rattle.std.proofs.Common.{List, ◌≤◌, ◌^◌, ◌∙◌, ap, subst, sym, refl, rules, arith}
use Rattle.std.specs.List.{AllByRecursion}
use Rattle.std.proofs.lemmas.List.{with_items_is}
use Rattle.trace_funnel.specs.declared.queue.Queue.{Queue}
use Rattle.trace_funnel.specs.Turns.{Place, turn}
use Rattle.trace_funnel.specs.Queues.{places_of, HaveRoom}
use Rattle.trace_funnel.proofs.Fields.{few_waits, turn_whole}
use Rattle.trace_funnel.proofs.funnel.Funnel.give.Goals as goal

pub turn-requires : goal.turn-requires
turn-requires g c =
    let held = c.self.invariant.held in
    let calm = subst (λ (l : List Queue). AllByRecursion (λ (p : Place). p.waited ≤ 2 ^ 32) (places_of l))
    (sym c.as_mut_slice.ensures.value) (few_waits c.self.inside c.self.invariant) in
    (search rules, (omega (arith, held), (calm, search rules)))

pub invariant_of-self : goal.invariant_of-self
invariant_of-self g c =
    let f = c.self.inside in
    let lent = c.as_mut_slice.ensures.value in
    let items =
    with_items_is f.queues c.turn.new.queues
    (let a = c.turn.auto.queues in let b = c.as_mut_slice.ensures.len in omega (arith, a, b))
    in
    turn_whole f _ c.self.invariant refl refl refl
    (ap places_of items ∙ c.turn.ensures.places ∙ ap (λ (l : List Queue). (turn f.hold (places_of l)).places) lent)
    (subst (λ (l : List Queue). HaveRoom f.depth l) (sym items)
    (c.turn.ensures.rooms f.depth (subst (λ (l : List Queue). HaveRoom f.depth l) (sym lent) c.self.invariant.rooms)))
