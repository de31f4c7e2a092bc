use Rattle.std.proofs.Common.{◌≤◌, ℕ}
use Rattle.trace_funnel.specs.Turns.{load}
use Rattle.port_formatter.specs.Formatter.{HasRoom, count_of}
use Rattle.port_formatter.specs.declared.formatter.Formatter.TheVariants.{Funnelled}
use Rattle.port_formatter.proofs.Passings.{Drains}
use Rattle.port_formatter.proofs.funnelled.FunnelledFrames.drain.Given as goal

abbrev pub invariant-loop-self : goal.invariant-loop-self
invariant-loop-self l = record {
  drains : Drains l.initial.self l.self;
  count : count_of (Funnelled l.self) ≤ count_of (Funnelled l.initial.self);
  room : (more : ℕ) → HasRoom (Funnelled l.initial.self) more → HasRoom (Funnelled l.self) more;
}

abbrev pub decreases-loop-self : goal.decreases-loop-self
decreases-loop-self l = load l.self.funnel.places
