use Rattle.std.proofs.Common.{◌≡◌, ◌++◌, take}
use Rattle.source_events.proofs.plan.Plan.mapped.Given as goal

abbrev pub invariant-loop-id : goal.invariant-loop-id
invariant-loop-id l = l.ids.items ≡ take l.id-index l.self.itm

abbrev pub invariant-loop-id-2 : goal.invariant-loop-id-2
invariant-loop-id-2 l = l.ids.items ≡ l.self.itm ++ take l.id-index l.self.stp
