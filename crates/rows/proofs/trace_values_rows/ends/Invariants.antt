use Rattle.std.proofs.Common.{◌≤◌}
use Rattle.rows.proofs.trace_values_rows.ends.Given as goal

abbrev pub invariant-loop-unit : goal.invariant-loop-unit
invariant-loop-unit l = l.run ≤ l.pattern.most
