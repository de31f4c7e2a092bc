-- Where a deformatter is in its hunt.
use Rattle.std.specs.Prelude.{ℕ}
use Rattle.deformatter.specs.Names.{Mode, Hunting as ModeHunting, Locked as ModeLocked, Hunter, run_of}
use Rattle.trace_values.specs.declared.mode.Mode.TheVariants.{Aligned as ModeAligned}
use Rattle.deformatter.specs.declared.deformatter.Phase.{Phase}
use Rattle.deformatter.specs.declared.deformatter.Phase.TheVariants.{Aligned, Hunting, Locked}

-- with the run of FF and the bytes skipped
abbrev pub mode_in : Phase → Hunter → ℕ → Mode
mode_in Aligned hunter skipped = ModeAligned
mode_in Hunting hunter skipped = ModeHunting (run_of hunter) skipped
mode_in Locked hunter skipped = ModeLocked skipped
