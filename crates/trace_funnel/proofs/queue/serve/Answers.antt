use Rattle.std.proofs.Common.{◌++◌, List, ◌∙◌, ap, arith, get_or, min}
use Rattle.trace_funnel.specs.declared.tagged.Tagged.{Tagged}
use Rattle.trace_funnel.specs.Queues.{room_of}
use Rattle.trace_funnel.proofs.Serving.{gives, serves, map_same}
use Rattle.trace_funnel.proofs.queue.serve.Goals as goal

pub returns-clause-given : goal.returns-clause-given
returns-clause-given g c = λ front back p parts number.
    let old = c.args.queues.now in
    let new = c.wait_all.new.queues in
    c.give.ensures.given
    ∙ ap (λ (l : List Tagged). c.args.out.now.items ++ l) (gives old new
    (get_or old c.args.place c.index-queues-place.result) (get_or new c.args.place c.index-queues-place-2.result)
    c.args.place c.args.hold c.min-count.result (omega arith) (omega arith)
    (ap (get_or old c.args.place) c.index-queues-place.is) (ap (get_or new c.args.place) c.index-queues-place-2.is)
    (c.min-count.ensures ∙ ap (min c.args.hold) c.len.ensures.len) c.wait_all.ensures.places front back p parts number)

pub returns-clause-places : goal.returns-clause-places
returns-clause-places g c = λ front back p parts number.
    let old = c.args.queues.now in
    let new = c.wait_all.new.queues in
    serves old new (get_or old c.args.place c.index-queues-place.result)
    (get_or new c.args.place c.index-queues-place-2.result)
    c.args.place c.args.hold c.min-count.result (omega arith) (omega arith)
    (ap (get_or old c.args.place) c.index-queues-place.is) (ap (get_or new c.args.place) c.index-queues-place-2.is)
    (c.min-count.ensures ∙ ap (min c.args.hold) c.len.ensures.len) c.wait_all.ensures.places front back p parts number
    c.give.new.self c.give.ensures.place

pub returns-clause-rooms : goal.returns-clause-rooms
returns-clause-rooms g c =
    let new = c.wait_all.new.queues in
    map_same room_of new c.args.place (get_or new c.args.place c.index-queues-place-2.result) c.give.new.self
    (omega arith) (ap (get_or new c.args.place) c.index-queues-place-2.is) c.give.ensures.room
    ∙ c.wait_all.ensures.rooms
