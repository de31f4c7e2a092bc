use Rattle.std.proofs.Common.{◌≡◌, ◌<◌, ℕ, List, get_or, length}
use Rattle.capture_actions.specs.Names.{ID_COUNT, Placed, source_counts_of}
use Rattle.source_merge.specs.Engine as engine
use Rattle.capture_actions.specs.Kinds.{none}
use Rattle.capture_actions.proofs.kind_check.all_counts.Given as goal

abbrev pub invariant-loop-number : goal.invariant-loop-number
invariant-loop-number l = record {
  size : length l.counts ≡ ID_COUNT;
  counted : (u : List Placed) → engine.Stands l.reading u → (x : ℕ) → x < l.number →
      get_or l.counts x none ≡ source_counts_of (engine.plan_of l.reading) u x;
}
