use Rattle.std.proofs.Common.{◌≡◌, ◌≤◌, ◌-◌, ◌++◌}
use Rattle.value_dump.specs.Dump.{changes_of, known}
use Rattle.value_dump.specs.Lines.{are_some, timed}
use Rattle.value_dump.proofs.values.SignalValues.put_changes.Given as goal

abbrev pub invariant-loop-number : goal.invariant-loop-number
invariant-loop-number l =
    let lines = changes_of l.number (known l.self.stamped) (known l.self.latest) in
    (l.outlet ≡ l.fn.outlet ++ timed l.time lines) × (l.is_timed ≡ are_some lines) × (l.number ≤ 40)

abbrev pub decreases-loop-number : goal.decreases-loop-number
decreases-loop-number l = 40 - l.number
