use Rattle.std.proofs.Common.{◌≡◌, ◌≤◌, List, Bool, length}
use Rattle.recovery_report.specs.Report.{Part, source_tails}
use Rattle.recovery_engine.specs.Slots.{StandFor}
use Rattle.recovery_engine.proofs.Below.{below}
use Rattle.recovery_engine.proofs.ends.source_tails.Given as goal

abbrev pub invariant-loop-number : goal.invariant-loop-number
invariant-loop-number l = record {
  few : length l.tails ≤ below l.number l.slots;
  tails : (guesses : Bool) (parts : List Part) → StandFor guesses l.plan parts l.slots →
      l.tails ≡ source_tails l.plan parts l.number;
}
