use Rattle.std.proofs.Common.{ℕ, ◌+◌, ◌*◌, ◌/◌, ◌%◌, ◌^◌, ◌∙◌, ap}
use Rattle.frame_runs.proofs.split.SplitFrame.of.Goals as goal

pub returns-clause-split : goal.returns-clause-split
returns-clause-split c = record { placed = c.requires; ends = c.of.ensures; late = λ k l. ap (λ (n : ℕ). 2 * k + n / 2 ^ k % 2) c.from.ensures ∙ c.late_ends.ensures k l }
