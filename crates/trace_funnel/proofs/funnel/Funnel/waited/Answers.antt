use Rattle.std.proofs.Common.{◌≡◌, ◌<◌, ◌≤◌, ◌-◌, ◌*◌, [], ◌∙◌, ap, subst, sym, length, List, ℕ}
use Rattle.trace_funnel.specs.declared.queue.Queue.{Queue}
use Rattle.trace_funnel.specs.Turns.{waited_of}
use Rattle.trace_funnel.specs.State.{State, queue_at, waited_at}
use Rattle.trace_funnel.specs.Queues.{places_of}
use Rattle.trace_funnel.proofs.Fields.{source_is, bound_is, idle_is}
use Rattle.trace_funnel.proofs.funnel.Funnel.waited.Goals as goal

pub returns-clause-number : goal.returns-clause-number
returns-clause-number c =
    let place = c.args.place in
    let here = subst (λ (s : State). place < length s.order) (sym c.self.view_is) c.requires in
    let f = c.self.inside in
    let source = source_is f c.self.invariant place here c.index.result.now c.index.ensures in
    let number = c.waited_in.ensures
    ∙ ap (λ (l : List Queue). waited_of c.index.result.now (places_of l)) c.as_slice.ensures.value
    ∙ ap (λ (x : ℕ). waited_of x (places_of f.queues.items)) source in
    number ∙ ap (λ (s : State). waited_at s place) c.self.view_is

pub returns-clause-bound : goal.returns-clause-bound
returns-clause-bound c =
    let place = c.args.place in
    let here = subst (λ (s : State). place < length s.order) (sym c.self.view_is) c.requires in
    let f = c.self.inside in
    let source = source_is f c.self.invariant place here c.index.result.now c.index.ensures in
    let number = c.waited_in.ensures
    ∙ ap (λ (l : List Queue). waited_of c.index.result.now (places_of l)) c.as_slice.ensures.value
    ∙ ap (λ (x : ℕ). waited_of x (places_of f.queues.items)) source in
    subst (λ (s : State). c.waited_in.result ≤ (length s.order - 1) * s.hold) c.self.view_is
    (subst (λ n. n ≤ (length f.order.items - 1) * f.hold) (sym number) (bound_is f c.self.invariant place here))

pub returns-clause-idle : goal.returns-clause-idle
returns-clause-idle c =
    let place = c.args.place in
    let here = subst (λ (s : State). place < length s.order) (sym c.self.view_is) c.requires in
    let f = c.self.inside in
    let source = source_is f c.self.invariant place here c.index.result.now c.index.ensures in
    let number = c.waited_in.ensures
    ∙ ap (λ (l : List Queue). waited_of c.index.result.now (places_of l)) c.as_slice.ensures.value
    ∙ ap (λ (x : ℕ). waited_of x (places_of f.queues.items)) source in
    subst (λ (s : State). queue_at s place ≡ [] → c.waited_in.result ≡ 0) c.self.view_is
    (λ e. number ∙ idle_is f c.self.invariant place here e)
