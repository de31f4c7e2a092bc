-- What a global clock keeps of the timestamps.
use Rattle.std.specs.Prelude.{◌≡◌, List}
use Rattle.trace_clock.specs.GlobalTime.{GlobalStamp, known_low, high_part}
use Rattle.trace_clock.specs.declared.global.GlobalClock.{GlobalClock}

-- a clock after these timestamps
pub record Stands (clock : GlobalClock) (stamps : List GlobalStamp) : Type 0 where
  pub low : clock.low ≡ known_low stamps
  pub high : clock.high ≡ high_part stamps
