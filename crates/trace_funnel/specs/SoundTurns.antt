-- How a funnel may take turns.
use Rattle.std.specs.Prelude.{◌≡◌, ◌<◌, ◌≤◌, length, true}
use Rattle.trace_funnel.specs.Order.{are_apart}
use Rattle.trace_funnel.specs.declared.turns.Turns.{Turns}

-- it has sources, none of them twice and all from 1 to 126; a turn gives 1 to 15 bytes at most, and a queue has 1 to
-- 4,096
abbrev pub IsSoundTurns : Turns → Type 0
IsSoundTurns t =
    (0 < length t.order) × (are_apart t.order ≡ true) × (1 ≤ t.hold) × (t.hold ≤ 15) × (1 ≤ t.depth) × (t.depth ≤ 4096)
