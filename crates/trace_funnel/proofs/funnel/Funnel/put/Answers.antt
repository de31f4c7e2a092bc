use Rattle.std.proofs.Common.{◌≡◌, ◌<◌, false, ◌∙◌, ap, subst, sym, length, refl, List, ℕ, arith}
use Rattle.std.specs.Vec.{with_items}
use Rattle.std.proofs.lemmas.List.{with_items_is}
use Rattle.trace_funnel.specs.declared.queue.Queue.{Queue}
use Rattle.trace_funnel.specs.declared.funnel.Funnel.TheInside.{Inside}
use Rattle.trace_funnel.specs.Turns.{is_full, put}
use Rattle.trace_funnel.specs.Queues.{places_of, rooms_of}
use Rattle.trace_funnel.specs.State.{State, id_at}
use Rattle.trace_funnel.proofs.Fields.{source_is, put_whole}
use Rattle.trace_funnel.proofs.Loading.{few_wait}
use Rattle.trace_funnel.proofs.funnel.Funnel.put.Goals as goal

pub invariant_of-self : goal.invariant_of-self
invariant_of-self c =
    let place = c.args.place in
    let here = subst (λ (s : State). place < length s.order) (sym c.self.view_is) c.requires.place in
    let f = c.self.inside in
    let lent = c.as_mut_slice.ensures.value in
    let source = source_is f c.self.invariant place here c.index.result.now c.index.ensures in
    let items =
    with_items_is f.queues c.put_in.new.queues
    (let a = c.put_in.auto.queues in let b = c.as_mut_slice.ensures.len in omega (arith, a, b))
    in
    put_whole f c.self.invariant place here c.args.byte _ refl refl refl
    (ap places_of items ∙ c.put_in.ensures.places
    ∙ ap (λ (l : List Queue). put c.index.result.now c.args.byte (places_of l)) lent
    ∙ ap (λ (x : ℕ). put x c.args.byte (places_of f.queues.items)) source)
    (ap rooms_of items ∙ c.put_in.ensures.rooms ∙ ap rooms_of lent)
    (subst (λ (s : State). is_full s.depth (id_at s place) s.places ≡ false) (sym c.self.view_is) c.requires.room)

pub returns-clause-few : goal.returns-clause-few
returns-clause-few c =
    let place = c.args.place in
    let here = subst (λ (s : State). place < length s.order) (sym c.self.view_is) c.requires.place in
    let f = c.self.inside in
    let lent = c.as_mut_slice.ensures.value in
    let source = source_is f c.self.invariant place here c.index.result.now c.index.ensures in
    let items =
    with_items_is f.queues c.put_in.new.queues
    (let a = c.put_in.auto.queues in let b = c.as_mut_slice.ensures.len in omega (arith, a, b))
    in
    let after : Inside = record {
      order = f.order;
      queues = with_items f.queues c.put_in.new.queues;
      hold = f.hold;
      depth = f.depth;
    } in
    few_wait after (put_whole f c.self.invariant place here c.args.byte after refl refl refl
    (ap places_of items ∙ c.put_in.ensures.places
    ∙ ap (λ (l : List Queue). put c.index.result.now c.args.byte (places_of l)) lent
    ∙ ap (λ (x : ℕ). put x c.args.byte (places_of f.queues.items)) source)
    (ap rooms_of items ∙ c.put_in.ensures.rooms ∙ ap rooms_of lent)
    (subst (λ (s : State). is_full s.depth (id_at s place) s.places ≡ false) (sym c.self.view_is) c.requires.room))
