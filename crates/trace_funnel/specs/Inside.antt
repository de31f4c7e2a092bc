-- The fields of a funnel, and what it stands for.
use Rattle.std.specs.Prelude.{◌≡◌, ◌≤◌, ℕ, length}
use Rattle.std.specs.List.{AllByRecursion}
use Rattle.trace_funnel.specs.declared.funnel.Funnel.TheInside.{Inside}
use Rattle.trace_funnel.specs.State.{State}
use Rattle.trace_funnel.specs.Turns.{empty}
use Rattle.trace_funnel.specs.Queues.{places_of, HaveRoom}
use Rattle.trace_funnel.specs.Kept.{count, Apart, AreBounded}

abbrev pub state_of : Inside → State
state_of f = record {
  order = f.order.items;
  hold = f.hold;
  depth = f.depth;
  places = places_of f.queues.items;
}

-- Its order has at most 16 sources, none of them twice, and each has a queue, no matter where. The queues have the same
-- room, and no more bytes than that. No place waits for too long.
pub record IsWhole (f : Inside) : Type 0 where
  pub few : length f.order.items ≤ 16
  pub apart : Apart (empty f.order.items)
  pub many : length f.queues.items ≡ length f.order.items
  pub same : (id : ℕ) → count id (places_of f.queues.items) ≡ count id (empty f.order.items)
  pub rooms : HaveRoom f.depth f.queues.items
  pub short : AllByRecursion (λ p. length p.queue ≤ f.depth) (places_of f.queues.items)
  pub some : 1 ≤ f.hold
  pub held : f.hold ≤ 15
  pub deep : 1 ≤ f.depth
  pub bounded : AreBounded f.hold (places_of f.queues.items)
