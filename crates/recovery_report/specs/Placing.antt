-- Where the parts of a capture lie.
use Rattle.std.specs.Prelude.{ℕ, ◌+◌, ◌≤◌, List}
use Rattle.source_events.specs.Merge.{Between}
use Rattle.source_events.specs.Runs.{IsRunFrom, end_of}
use Rattle.recovery_report.specs.Report.{Part, Run, Locks, Breaks}

-- where a part lies: from an offset on, and before another
abbrev pub PartLies : ℕ → Part → Type 0
PartLies n (Run run) = IsRunFrom n run
PartLies n (Locks skipped place) = n ≤ place.at
PartLies n (Breaks reason place) = n ≤ place.at

abbrev pub part_end : Part → ℕ
part_end (Run run) = end_of run
part_end (Locks skipped place) = place.at + 1
part_end (Breaks reason place) = place.at + 1

-- parts that lie one after the other, from one offset on, up to another
abbrev pub PartsBetween : ℕ → ℕ → List Part → Type 0
PartsBetween n k parts = Between PartLies part_end n k parts
