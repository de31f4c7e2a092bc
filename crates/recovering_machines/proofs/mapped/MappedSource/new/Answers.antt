use Rattle.std.proofs.Common.{ℕ, Bool, true, false}
use Rattle.trace_values.specs.ReadingModes.{packets_hunt}
use Rattle.stretch_readings.specs.Stretches.{before, from_fault}
use Rattle.recovering_machines.specs.Mapped.{FollowsIf}
use Rattle.recovering_machines.specs.Source.{reads_of}
use Rattle.recovering_machines.proofs.mapped.MappedSource.new.Goals as goal

pub returns-clause-guess : goal.returns-clause-guess
returns-clause-guess c = λ at. by c.args.guesses at where
  by : (b : Bool) (at : ℕ) → FollowsIf b c.new-2.result c.new.result at
      (before (reads_of c.new.result) from_fault (packets_hunt c.args.packets))
  by true at = c.new-2.ensures.follows c.new.result (packets_hunt c.args.packets) at c.new.ensures.kind
      c.new.ensures.reads
  by false at = tt
