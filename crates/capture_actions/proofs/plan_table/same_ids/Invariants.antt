use Rattle.std.proofs.Common.{◌≡◌, length, take}
use Rattle.capture_actions.proofs.plan_table.same_ids.Given as goal

abbrev pub invariant-loop-id : goal.invariant-loop-id
invariant-loop-id l = record {
  same : l.same ≡ take l.id-index l.ids;
  count : length l.same ≡ l.id-index;
}
