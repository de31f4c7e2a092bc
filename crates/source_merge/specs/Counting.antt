-- What is counted of a report.
use Rattle.std.specs.Prelude.{◌≡◌, ◌≤◌, ℕ, ◌+◌, List, length, Bool, ◌==◌, ◌&&◌}
use Rattle.trace_values.specs.Placed.{Placed}
use Rattle.source_events.specs.declared.event.Event.{Event}
use Rattle.source_events.specs.declared.packet.Packet.{Packet}
use Rattle.source_events.specs.declared.plan.Plan.{Plan}
use Rattle.source_events.specs.Tails.{items_in}
use Rattle.recovery_engine.specs.PerSource.{number_of, total_of}
use Rattle.recovery_engine.specs.declared.per_source.PerSource.{PerSource}
use Rattle.source_merge.specs.Answering.{report_of}

-- the items of each source in these events were counted
abbrev pub Counts : PerSource → PerSource → List (Event Packet) → Type 0
Counts old new es = (x : ℕ) → number_of new x ≡ number_of old x + items_in x es

-- and these are at most so many
pub record CountsFew (old new : PerSource) (most : ℕ) (es : List (Event Packet)) : Type 0 where
  pub counts : Counts old new es
  pub total : total_of new ≤ total_of old + most

-- no source is mapped
abbrev pub maps_none : Plan → Bool
maps_none plan = (length plan.itm == 0) && (length plan.stp == 0)

-- the items of each source in the report of these bytes
abbrev pub HasItems : PerSource → Plan → List Placed → Type 0
HasItems items plan u = (x : ℕ) → x ≤ 126 → number_of items x ≡ items_in x (report_of plan u)
