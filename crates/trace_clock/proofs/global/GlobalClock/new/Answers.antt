use Rattle.std.proofs.Common.{refl}
use Rattle.trace_clock.specs.GlobalTime.{low_part, high_part}
use Rattle.trace_clock.proofs.global.GlobalClock.new.Goals as goal

pub returns : goal.returns
unfolding low_part high_part
returns c = record { low = refl; high = refl }
