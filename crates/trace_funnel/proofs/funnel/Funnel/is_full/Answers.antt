use Rattle.std.proofs.Common.{◌<◌, ◌∙◌, ap, subst, sym, length, List, ℕ}
use Rattle.std.specs.Prelude.{nat_eq}
use Rattle.trace_funnel.specs.declared.queue.Queue.{Queue}
use Rattle.trace_funnel.specs.Turns.{is_full, queue_of}
use Rattle.trace_funnel.specs.State.{State, id_at, HasPlace}
use Rattle.trace_funnel.specs.Queues.{places_of}
use Rattle.trace_funnel.proofs.Fields.{source_is, full_is, has_place}
use Rattle.trace_funnel.proofs.funnel.Funnel.is_full.Goals as goal

pub returns-clause-full : goal.returns-clause-full
returns-clause-full c =
    let place = c.args.place in
    let here = subst (λ (s : State). place < length s.order) (sym c.self.view_is) c.requires in
    let f = c.self.inside in
    let source = source_is f c.self.invariant place here c.index.result.now c.index.ensures in
    ap (λ n. nat_eq n f.depth) (c.count_in.ensures
    ∙ ap (λ (l : List Queue). length (queue_of c.index.result.now (places_of l))) c.as_slice.ensures.value
    ∙ ap (λ (x : ℕ). length (queue_of x (places_of f.queues.items))) source)
    ∙ full_is f c.self.invariant place here
    ∙ ap (λ (s : State). is_full s.depth (id_at s place) s.places) c.self.view_is

pub returns-clause-has : goal.returns-clause-has
returns-clause-has c =
    let place = c.args.place in
    let here = subst (λ (s : State). place < length s.order) (sym c.self.view_is) c.requires in
    subst (λ (s : State). HasPlace s place) c.self.view_is (has_place c.self.inside c.self.invariant place here)
