use Rattle.std.proofs.Common.{◌++◌, sym, ◌∙◌, ap, append-nil}
use Rattle.trace_funnel.specs.Turns.{Turned, turn_of}
use Rattle.trace_funnel.specs.Queues.{places_of}
use Rattle.trace_funnel.proofs.Finding.{position_first, position_none}
use Rattle.trace_funnel.proofs.Giving.{places_turn, given_turn, rooms_turn}
use Rattle.trace_funnel.proofs.queue.turn.Goals as goal

pub returns-clause-given : goal.returns-clause-given
returns-clause-given g c =
    given_turn c.args.hold c.in-Some.place c.args.queues.now c.serve.new.queues c.rotate_left.new.self
    (position_first c.args.queues.now c.in-Some.place c.in-Some.ensures.value) c.serve.ensures.places
    c.rotate_left.ensures.after c.args.out.now.items c.serve.new.out.items c.serve.ensures.given

pub returns-clause-places : goal.returns-clause-places
returns-clause-places g c =
    places_turn c.args.hold c.in-Some.place c.args.queues.now c.serve.new.queues c.rotate_left.new.self
    (position_first c.args.queues.now c.in-Some.place c.in-Some.ensures.value) c.serve.ensures.places
    c.rotate_left.ensures.after

pub returns-clause-rooms : goal.returns-clause-rooms
returns-clause-rooms g c = λ depth.
    rooms_turn c.args.hold c.in-Some.place c.args.queues.now c.serve.new.queues c.rotate_left.new.self
    (position_first c.args.queues.now c.in-Some.place c.in-Some.ensures.value) c.serve.ensures.places
    c.rotate_left.ensures.after depth c.serve.ensures.rooms

-- none has bytes
pub returns-in_default-clause-given : goal.returns-in_default-clause-given
returns-in_default-clause-given g c =
    sym (ap (λ (t : Turned). c.args.out.now.items ++ t.out)
    (ap (turn_of c.args.hold (places_of c.args.queues.now)) (position_none c.args.queues.now c.in_default.ensures.value))
    ∙ append-nil c.args.out.now.items)

pub returns-in_default-clause-places : goal.returns-in_default-clause-places
returns-in_default-clause-places g c =
    sym (ap (λ (t : Turned). t.places) (ap (turn_of c.args.hold (places_of c.args.queues.now))
    (position_none c.args.queues.now c.in_default.ensures.value)))
