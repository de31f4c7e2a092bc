use Rattle.std.proofs.Common.{◌≡◌, ◌<◌, ℕ, Bool, Some, get_or, length}
use Rattle.capture_actions.specs.Faulty.{is_stp}
use Rattle.capture_actions.proofs.plan_table.stp_table.Given as goal

abbrev pub invariant-loop-number : goal.invariant-loop-number
invariant-loop-number l = record {
  known : (x : ℕ) (d : Bool) → x < l.number → get_or l.stp x d ≡ is_stp l.plan (Some x);
  whole : length l.stp ≡ 127;
}
