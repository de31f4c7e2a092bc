use Rattle.std.proofs.Common.{◌≡◌, map, take}
use Rattle.trace_funnel.specs.Turns.{empty}
use Rattle.trace_funnel.specs.Queues.{places_of, rooms_of}
use Rattle.trace_funnel.proofs.queue.queues_of.Given as goal

abbrev pub invariant-loop-id : goal.invariant-loop-id
invariant-loop-id l = record {
  places : places_of l.queues.items ≡ empty (take l.id-index l.order);
  rooms : rooms_of l.queues.items ≡ map (λ _. l.depth) (take l.id-index l.order);
}
